-- What is summed of an alternating function over the kept pieces of a triangle, and over its parts between two places along the ship.
use Prim.Native.Nat.{ℕ, suc}
use native.Mathlib.Omega.{arith}
use mathlib.Core.Path.{◌≡◌, refl, sym, ◌∙◌, ap, ap₂}
use mathlib.Core.List.{List, [], ◌∷◌, ◌++◌}
use mathlib.Core.Bool.{Bool, true, false}
use lib.IntN.{ℤ}
use Rattle.std.specs.Prelude.{filter, cond}
use Rattle.std.specs.List.{flat_map}
use Rattle.std.proofs.lemmas.List.Elements.{filter-append}
use Rattle.exact_algebra.specs.Expression.{var, unit, ◌:+◌, ◌:-◌, ◌:*◌}
use Rattle.exact_algebra.specs.OrderedField.{Sign, level}
use Rattle.exact_algebra.proofs.Ring.{ring, ring_from, none, given}
use Rattle.exact_algebra.proofs.Fraction.{Fraction, ◌⊕◌, sign, fraction_ring}
use Rattle.exact_algebra.proofs.Whole.{whole}
use Rattle.hull_model.specs.FaceParts.{parts_between}
use Rattle.hull_model.specs.Flooded.{cut_by, forward_of, aft_of}
use Rattle.hull_model.specs.Fractions.{sum_over}
use Rattle.hull_model.specs.TriangleCut.{Triangle, triangle, Split, uncut, parts, are_opposite, is_kept_by, crossing, split_by, split, pieces, is_kept, kept_pieces}
use Rattle.hull_model.specs.TriangleSums.{Function, IsAlternating, Splits, AddsUp, value}
use Rattle.hull_model.specs.Waterplane.{Position}
use Rattle.hull_model.proofs.TriangleCut.{pieces_uncut}
use Rattle.hull_model.proofs.CutInduction.{NoneBelow, NoneAbove, one_side, cut_induction}
use Rattle.hull_model.proofs.ShareSplits.{sum_over-append, sum_over-one, sum_over-none}
use Rattle.hull_model.proofs.WetSum.{kept_none_below, not_kept_either}
use Rattle.hull_model.proofs.EdgeSplits.{IsLinearFunction, AddsUpInside, split_middle, split_last}
use Rattle.hull_model.proofs.CrossingPoints.{cross}
use Rattle.hull_model.proofs.KeptPart.{kept_part, kept_part-alternating, kept_part-dry, kept_part-whole, kept_part-splits, kept_part-adds}

false-ne-true : false ≡ true → ⊥
false-ne-true h = cc

not_all_level : (p q r : Sign) → is_kept_by p q r ≡ true → p ≡ level → q ≡ level → r ≡ level → ⊥
not_all_level p q r e f g h = grind arith

module _ (d : Position → Fraction) (d_linear : IsLinearFunction d) (k : Function) (alternating : IsAlternating k) (adds : AddsUpInside k) where
  abbrev part : Function
  part = kept_part d k

  abbrev at_crossing : (a b : Position) → are_opposite (sign (d a)) (sign (d b)) ≡ true → Splits part (cross d a b) a b
  at_crossing a b e = kept_part-splits d k alternating d_linear adds a b e

  part_alternating : IsAlternating part
  part_alternating = kept_part-alternating d k alternating

  -- ---- the kept pieces of a triangle
  abbrev kept : ℕ → Triangle Position → List (Triangle Position)
  kept n t = filter (is_kept (cut_by d)) (pieces (cut_by d) n t)

  abbrev opposite_sides : Position → Position → Bool
  opposite_sides p q = are_opposite (sign (d p)) (sign (d q))

  unfoldable Sums : ℕ → Position → Position → Position → Type 0
  Sums n a b c = sum_over (value k) (kept n (triangle a b c)) ≡ part a b c

  kept_parts : (n : ℕ) (t p q : Triangle Position) → split (cut_by d) t ≡ parts p q → sum_over (value k) (kept (suc n) t) ≡ sum_over (value k) (kept n p) ⊕ sum_over (value k) (kept n q)
  unfolding pieces
  kept_parts n t p q e = ap (sum_over (value k)) (ap (λ (u : Split Position). filter (is_kept (cut_by d)) (elim u [ uncut ↦ t ∷ [] | parts p q ↦ pieces (cut_by d) n p ++ pieces (cut_by d) n q ])) e
      ∙ filter-append (is_kept (cut_by d)) (pieces (cut_by d) n p) (pieces (cut_by d) n q)) ∙ sum_over-append (value k) (kept n p) (kept n q)

  split_at : (a b c : Position) (u v w : Bool) → opposite_sides a b ≡ u → opposite_sides a c ≡ v → opposite_sides b c ≡ w → split (cut_by d) (triangle a b c) ≡ split_by (cut_by d) u v w a b c
  split_at a b c u v w e f g = λ i. split_by (cut_by d) (e i) (f i) (g i) a b c

  settled : (n : ℕ) (a b c : Position) → opposite_sides a b ≡ false → opposite_sides a c ≡ false → opposite_sides b c ≡ false → Sums n a b c
  unfolding Sums
  settled n a b c e f g = ap (λ ts. sum_over (value k) ts) (ap (filter (is_kept (cut_by d))) (pieces_uncut (cut_by d) n T (split_at a b c false false false e f g))) ∙ go (is_kept (cut_by d) T) refl
    where
      T : Triangle Position
      T = triangle a b c

      go : (u : Bool) → is_kept (cut_by d) T ≡ u → sum_over (value k) (cond u (T ∷ []) []) ≡ part a b c
      go true h = sum_over-one (value k) T ∙ sym (kept_part-whole d k alternating a b c low.0 low.1 low.2 (λ x y z. absurd (not_all_level (sign (d a)) (sign (d b)) (sign (d c)) h x y z)))
        where
          low : NoneBelow (sign (d a)) (sign (d b)) (sign (d c))
          low = kept_none_below (sign (d a)) (sign (d b)) (sign (d c)) h
      go false h = sum_over-none (value k) ∙ sym (kept_part-dry d k a b c high.0 high.1 high.2)
        where
          high : NoneAbove (sign (d a)) (sign (d b)) (sign (d c))
          high = not_kept_either (sign (d a)) (sign (d b)) (sign (d c)) h (one_side (sign (d a)) (sign (d b)) (sign (d c)) e f g)

  both : (n : ℕ) (t p q : Triangle Position) → split (cut_by d) t ≡ parts p q → part t.a t.b t.c ≡ part p.a p.b p.c ⊕ part q.a q.b q.c → Sums n p.a p.b p.c → Sums n q.a q.b q.c → Sums (suc n) t.a t.b t.c
  unfolding Sums
  both n t p q e s f g = kept_parts n t p q e ∙ ap₂ ◌⊕◌ f g ∙ sym s

  exchanged : (x y z : Fraction) → x ≡ y ⊕ z → x ≡ z ⊕ y
  exchanged x y z e = ring_from fraction_ring (x ∷ y ∷ z ∷ []) ((unit, var 0, var 1 :+ var 2) ∷ []) (given e none) (var 0) (var 2 :+ var 1) refl

  by_cuts : (a b c : Position) → Sums 3 a b c
  unfolding crossing
  by_cuts = cut_induction (cut_by d) d_linear Sums settled
      (λ n a b c e h l. both n (triangle a b c) (triangle (cross d a b) b c) (triangle a (cross d a b) c) (split_at a b c true _ _ e refl refl)
      (exchanged _ _ _ (at_crossing a b e c)) h l)
      (λ n a b c f e h l. both n (triangle a b c) (triangle (cross d a c) b c) (triangle a b (cross d a c)) (split_at a b c false true _ f e refl)
      (exchanged _ _ _ (split_middle part part_alternating (cross d a c) a c (at_crossing a c e) b)) h l)
      (λ n a b c f g e h l. both n (triangle a b c) (triangle a (cross d b c) c) (triangle a b (cross d b c)) (split_at a b c false false true f g e)
      (exchanged _ _ _ (split_last part part_alternating (cross d b c) b c (at_crossing b c e) a)) h l)

  pub kept_sum : (t : Triangle Position) → sum_over (value k) (kept_pieces (cut_by d) t) ≡ part t.a t.b t.c
  unfolding kept_pieces Sums
  kept_sum t = by_cuts t.a t.b t.c

-- ---- between two places along the ship
pub sum_over-flat_map : {A B : Type 0} (f : B → Fraction) (make : A → List B) (xs : List A) → sum_over f (flat_map make xs) ≡ sum_over (λ x. sum_over f (make x)) xs
unfolding sum_over
sum_over-flat_map f make [] = refl
sum_over-flat_map f make (x ∷ xs) = sum_over-append f (make x) (flat_map make xs) ∙ ap (λ s. sum_over f (make x) ⊕ s) (sum_over-flat_map f make xs)

pub forward_linear : (place : ℤ) → IsLinearFunction (forward_of place)
forward_linear place t p q = ring fraction_ring (t ∷ p.x ∷ q.x ∷ whole place ∷ []) (((unit :- var 0) :* var 1 :+ var 0 :* var 2) :- var 3) ((unit :- var 0) :* (var 1 :- var 3) :+ var 0 :* (var 2 :- var 3)) refl

pub aft_linear : (place : ℤ) → IsLinearFunction (aft_of place)
aft_linear place t p q = ring fraction_ring (t ∷ p.x ∷ q.x ∷ whole place ∷ []) (var 3 :- ((unit :- var 0) :* var 1 :+ var 0 :* var 2)) ((unit :- var 0) :* (var 3 :- var 1) :+ var 0 :* (var 3 :- var 2)) refl

-- the sum over the part aft of a place, and over the part between two
abbrev pub aft_part : ℤ → Function → Function
aft_part fore k = kept_part (aft_of fore) k

abbrev pub part_between : ℤ → ℤ → Function → Function
part_between aft fore k = kept_part (forward_of aft) (aft_part fore k)

module _ (aft fore : ℤ) (k : Function) (alternating : IsAlternating k) (adds : AddsUp k) where
  pub inside_edges : AddsUpInside k
  inside_edges t i a b = adds t a b

  pub aft_part-alternating : IsAlternating (aft_part fore k)
  aft_part-alternating = kept_part-alternating (aft_of fore) k alternating

  pub aft_part-adds : AddsUpInside (aft_part fore k)
  aft_part-adds = kept_part-adds (aft_of fore) k alternating (aft_linear fore) adds

  pub part_between-alternating : IsAlternating (part_between aft fore k)
  part_between-alternating = kept_part-alternating (forward_of aft) (aft_part fore k) aft_part-alternating

  pub parts-sum : (t : Triangle Position) → sum_over (value k) (parts_between aft fore t) ≡ value (part_between aft fore k) t
  unfolding parts_between
  parts-sum t = sum_over-flat_map (value k) (kept_pieces (cut_by (aft_of fore))) (kept_pieces (cut_by (forward_of aft)) t)
      ∙ (λ i. sum_over (λ p. kept_sum (aft_of fore) (aft_linear fore) k alternating inside_edges p i) (kept_pieces (cut_by (forward_of aft)) t))
      ∙ kept_sum (forward_of aft) (forward_linear aft) (aft_part fore k) aft_part-alternating aft_part-adds t

  pub all_parts-sum : (ts : List (Triangle Position)) → sum_over (value k) (flat_map (parts_between aft fore) ts) ≡ sum_over (value (part_between aft fore k)) ts
  all_parts-sum ts = sum_over-flat_map (value k) (parts_between aft fore) ts ∙ (λ i. sum_over (λ t. parts-sum t i) ts)
