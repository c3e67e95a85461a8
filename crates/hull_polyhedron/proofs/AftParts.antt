-- What is summed over the faces of the pieces between two places along the ship, by that of the parts aft of each: the part aft of a place has
-- a sum over the faces of the whole, which adds up where the whole is cut at another place.
use mathlib.Core.Path.{◌≡◌, refl, sym, ◌∙◌, ap, ap₂}
use mathlib.Core.List.{List, [], ◌∷◌}
use mathlib.Core.Logic.{◌≢◌}
use mathlib.Core.Bool.{true}
use lib.IntN.{ℤ}
use Rattle.std.specs.Prelude.{◌≤ℤ◌}
use Rattle.std.specs.List.{AllByRecursion}
use Rattle.exact_algebra.specs.Expression.{var, unit, number, ◌:+◌, ◌:-◌, opposite}
use Rattle.exact_algebra.specs.OrderedField.{below, level, above, turned as turned_sign}
use Rattle.exact_algebra.proofs.Ring.{ring, ring_from, none, given}
use Rattle.exact_algebra.proofs.Fraction.{Fraction, nought, ◌⊕◌, ◌⊖◌, sign, fractions, fraction_ring}
use Rattle.exact_algebra.proofs.Order as Order
use Rattle.exact_algebra.proofs.Whole.{whole, whole-≼}
use Rattle.hull_model.specs.Fractions.{sum_over}
use Rattle.hull_model.specs.TriangleCut.{crossing}
use Rattle.hull_model.specs.TetrahedronCut.{Tetrahedron, is_kept, kept_pieces}
use Rattle.hull_model.specs.Waterplane.{Position}
use Rattle.hull_model.specs.Flooded.{cut_by, forward_of, aft_of, pieces_between}
use Rattle.hull_model.proofs.CutInduction.{inside, crossing_parameter}
use Rattle.hull_polyhedron.proofs.Pieces.{AtEdges, kept_none_below, sides_none_below, sides_none_above, all_kept, sum_kept}
use Rattle.hull_model.specs.TriangleSums.{on, Function, IsAlternating, AddsUp}
use Rattle.hull_model.proofs.EdgeSplits.{IsLinearFunction, AddsUpInside}
use Rattle.hull_model.proofs.KeptPart.{kept_part, kept_part-alternating, kept_part-adds}
use Rattle.hull_polyhedron.proofs.FacePieces.{over_faces, edge_ab, edge_ac, edge_ad, edge_bc, edge_bd, edge_cd, kept_faces, faces_whole, faces_dry}
use Rattle.hull_model.proofs.PartSums.{sum_over-flat_map, forward_linear, aft_linear}

-- ---- sums over lists
pub sum_over-same : {A : Type 0} (f g : A → Fraction) (xs : List A) → AllByRecursion (λ x. f x ≡ g x) xs → sum_over f xs ≡ sum_over g xs
unfolding sum_over
sum_over-same f g [] all = refl
sum_over-same f g (x ∷ xs) all = ap₂ ◌⊕◌ all.0 (sum_over-same f g xs all.1)

pub all-implied : {A : Type 0} (P Q : A → Type 0) → ((x : A) → P x → Q x) → (xs : List A) → AllByRecursion P xs → AllByRecursion Q xs
all-implied P Q h [] all = tt
all-implied P Q h (x ∷ xs) all = (h x all.0, all-implied P Q h xs all.1)

-- ---- a sum over the faces of tetrahedra, of a function that adds up inside edges, adds up at each split of a cut
module _ (d : Position → Fraction) (d_linear : IsLinearFunction d) (k : Function) (alternating : IsAlternating k) (adds : AddsUpInside k) where
  abbrev at : Position → Position → Position
  at p q = on (crossing_parameter (cut_by d) d_linear p q) p q

  pub faces_add_up : AtEdges (cut_by d) (λ t p q. over_faces k t ≡ over_faces k p ⊕ over_faces k q)
  unfolding crossing
  faces_add_up = record {
    ab = λ a b c e h. edge_ab k alternating (at a b) a b c e (adds _ (inside (cut_by d) d_linear a b h) a b);
    ac = λ a b c e h. edge_ac k alternating (at a c) a b c e (adds _ (inside (cut_by d) d_linear a c h) a c);
    ad = λ a b c e h. edge_ad k alternating (at a e) a b c e (adds _ (inside (cut_by d) d_linear a e h) a e);
    bc = λ a b c e h. edge_bc k alternating (at b c) a b c e (adds _ (inside (cut_by d) d_linear b c h) b c);
    bd = λ a b c e h. edge_bd k alternating (at b e) a b c e (adds _ (inside (cut_by d) d_linear b e h) b e);
    cd = λ a b c e h. edge_cd k alternating (at c e) a b c e (adds _ (inside (cut_by d) d_linear c e h) c e);
  }

-- ---- places along the ship
-- a position that isn't aft of a place isn't forward of it on the other side
not_aft : (place : ℤ) (p : Position) → sign (forward_of place p) ≢ below → sign (aft_of place p) ≢ above
not_aft place p n e = n (ap sign (ring fraction_ring (p.x ∷ whole place ∷ []) (var 0 :- var 1) (opposite (var 1 :- var 0)) refl) ∙ fractions.laws.sign-negative (aft_of place p) ∙ ap turned_sign e)

not_forward : (place : ℤ) (p : Position) → sign (forward_of place p) ≢ above → sign (aft_of place p) ≢ below
not_forward place p n e = n (ap sign (ring fraction_ring (p.x ∷ whole place ∷ []) (var 0 :- var 1) (opposite (var 1 :- var 0)) refl) ∙ fractions.laws.sign-negative (aft_of place p) ∙ ap turned_sign e)

still_aft : (near far : ℤ) (p : Position) → near ≤ℤ far → sign (aft_of near p) ≢ below → sign (aft_of far p) ≢ below
still_aft near far p h n = Order.nonnegative_same fractions (ring fraction_ring (p.x ∷ whole near ∷ whole far ∷ []) (var 2 :- var 0) ((var 1 :- var 0) :+ (var 2 :- var 1)) refl) (Order.nonnegative-add fractions n (whole-≼ h))

module _ (f : Function) (alternating : IsAlternating f) (adds : AddsUp f) (level_face : (p q r : Position) → q.x ≡ p.x → r.x ≡ p.x → f p q r ≡ nought) where
  abbrev aft_face : ℤ → Function
  aft_face place = kept_part (aft_of place) f

  -- the sum over the faces of a tetrahedron, each taken aft of a place
  abbrev pub aft_sum : ℤ → Tetrahedron Position → Fraction
  aft_sum place t = over_faces (kept_part (aft_of place) f) t

  aft_alternating : (place : ℤ) → IsAlternating (aft_face place)
  aft_alternating place = kept_part-alternating (aft_of place) f alternating

  aft_inside : (place : ℤ) → AddsUpInside (aft_face place)
  aft_inside place = kept_part-adds (aft_of place) f alternating (aft_linear place) adds

  adds_inside : AddsUpInside f
  adds_inside t i = adds t

  flat : (place : ℤ) (p q r : Position) → sign (aft_of place p) ≡ level → sign (aft_of place q) ≡ level → sign (aft_of place r) ≡ level → f p q r ≡ nought
  flat place p q r e k l = level_face p q r (same p q e k) (same p r e l)
    where
      same : (p q : Position) → sign (aft_of place p) ≡ level → sign (aft_of place q) ≡ level → q.x ≡ p.x
      same p q e k = ring_from fraction_ring (p.x ∷ q.x ∷ whole place ∷ []) ((unit, var 2 :- var 0, number 0) ∷ (opposite unit, var 2 :- var 1, number 0) ∷ [])
          (given (fractions.laws.nought_from_sign _ e) (given (fractions.laws.nought_from_sign _ k) none)) (var 1) (var 0) refl

  -- a tetrahedron with no corner forward of the place, and with none aft of it
  aft_sum_whole : (place : ℤ) (t : Tetrahedron Position) → sides_none_below (cut_by (aft_of place)) t → aft_sum place t ≡ over_faces f t
  aft_sum_whole place t n = faces_whole (aft_of place) (aft_linear place) f alternating adds_inside (flat place) t n

  aft_sum_none : (place : ℤ) (t : Tetrahedron Position) → sides_none_above (cut_by (aft_of place)) t → aft_sum place t ≡ nought
  aft_sum_none place t n = faces_dry (aft_of place) (aft_linear place) f alternating adds_inside t n

  -- each adds up at each split of a cut
  module _ (depth : Position → Fraction) (linear : IsLinearFunction depth) where
    whole_splits : AtEdges (cut_by depth) (λ t p q. over_faces f t ≡ over_faces f p ⊕ over_faces f q)
    whole_splits = faces_add_up depth linear f alternating adds_inside

    aft_splits : (place : ℤ) → AtEdges (cut_by depth) (λ t p q. aft_sum place t ≡ aft_sum place p ⊕ aft_sum place q)
    aft_splits place = faces_add_up depth linear (aft_face place) (aft_alternating place) (aft_inside place)

    -- and so does a difference
    module _ (g h : Tetrahedron Position → Fraction) (g_at : AtEdges (cut_by depth) (λ t p q. g t ≡ g p ⊕ g q)) (h_at : AtEdges (cut_by depth) (λ t p q. h t ≡ h p ⊕ h q)) where
      less : (t p q : Tetrahedron Position) → g t ≡ g p ⊕ g q → h t ≡ h p ⊕ h q → g t ⊖ h t ≡ (g p ⊖ h p) ⊕ (g q ⊖ h q)
      less t p q e k = ring_from fraction_ring (g t ∷ g p ∷ g q ∷ h t ∷ h p ∷ h q ∷ []) ((unit, var 0, var 1 :+ var 2) ∷ (opposite unit, var 3, var 4 :+ var 5) ∷ []) (given e (given k none))
          (var 0 :- var 3) ((var 1 :- var 4) :+ (var 2 :- var 5)) refl

      pub difference_splits : AtEdges (cut_by depth) (λ t p q. g t ⊖ h t ≡ (g p ⊖ h p) ⊕ (g q ⊖ h q))
      difference_splits = record {
        ab = λ a b c d e. less _ _ _ (g_at.ab a b c d e) (h_at.ab a b c d e);
        ac = λ a b c d e. less _ _ _ (g_at.ac a b c d e) (h_at.ac a b c d e);
        ad = λ a b c d e. less _ _ _ (g_at.ad a b c d e) (h_at.ad a b c d e);
        bc = λ a b c d e. less _ _ _ (g_at.bc a b c d e) (h_at.bc a b c d e);
        bd = λ a b c d e. less _ _ _ (g_at.bd a b c d e) (h_at.bd a b c d e);
        cd = λ a b c d e. less _ _ _ (g_at.cd a b c d e) (h_at.cd a b c d e);
      }

  no_difference : (x y : Fraction) → x ≡ y → x ⊖ y ≡ nought
  no_difference x y e = ring_from fraction_ring (x ∷ y ∷ []) ((unit, var 0, var 1) ∷ []) (given e none) (var 0 :- var 1) (number 0) refl

  less_nothing : (x y : Fraction) → y ≡ nought → x ≡ x ⊖ y
  less_nothing x y e = ring_from fraction_ring (x ∷ y ∷ []) ((unit, var 1, number 0) ∷ []) (given e none) (var 0) (var 0 :- var 1) refl

  -- ---- kept pieces
  abbrev IsKept : (Position → Fraction) → Tetrahedron Position → Type 0
  IsKept depth t = (is_kept (cut_by depth) t ≡ true) × Unit {0}

  kept : (depth : Position → Fraction) (t : Tetrahedron Position) → AllByRecursion (IsKept depth) (kept_pieces (cut_by depth) t)
  kept depth t = all_kept (cut_by depth) (λ t. Unit {0})
      (record { ab = λ a b c d e h. (tt, tt); ac = λ a b c d e h. (tt, tt); ad = λ a b c d e h. (tt, tt); bc = λ a b c d e h. (tt, tt); bd = λ a b c d e h. (tt, tt); cd = λ a b c d e h. (tt, tt) }) t tt

  none_below : (depth : Position → Fraction) (t : Tetrahedron Position) → IsKept depth t → sides_none_below (cut_by depth) t
  none_below depth t k = kept_none_below (sign (depth t.a)) (sign (depth t.b)) (sign (depth t.c)) (sign (depth t.d)) k.0

  -- the pieces aft of a place
  pub sum_aft : (place : ℤ) (t : Tetrahedron Position) → sum_over (over_faces f) (kept_pieces (cut_by (aft_of place)) t) ≡ aft_sum place t
  sum_aft place t = kept_faces (aft_of place) (aft_linear place) f alternating adds_inside (flat place) t

  -- the pieces forward of a place
  pub sum_forward : (place : ℤ) (t : Tetrahedron Position) → sum_over (over_faces f) (kept_pieces (cut_by (forward_of place)) t) ≡ over_faces f t ⊖ aft_sum place t
  sum_forward place t = sum_over-same (over_faces f) (λ p. over_faces f p ⊖ aft_sum place p) (kept_pieces (cut_by (forward_of place)) t)
      (all-implied (IsKept (forward_of place)) (λ p. over_faces f p ≡ over_faces f p ⊖ aft_sum place p) (λ p k. less_nothing _ _ (none_aft p (none_below (forward_of place) p k))) _ (kept (forward_of place) t))
      ∙ sum_kept (cut_by (forward_of place)) (forward_linear place) (λ p. over_faces f p ⊖ aft_sum place p)
      (difference_splits (forward_of place) (forward_linear place) (over_faces f) (aft_sum place) (whole_splits (forward_of place) (forward_linear place)) (aft_splits (forward_of place) (forward_linear place) place))
      (λ p n. no_difference _ _ (sym (aft_sum_whole place p (not_forward place p.a n.0, not_forward place p.b n.1, not_forward place p.c n.2, not_forward place p.d n.3)))) t
    where
      none_aft : (p : Tetrahedron Position) → sides_none_below (cut_by (forward_of place)) p → aft_sum place p ≡ nought
      none_aft p n = aft_sum_none place p (not_aft place p.a n.0, not_aft place p.b n.1, not_aft place p.c n.2, not_aft place p.d n.3)

  -- the pieces forward of a place, each taken aft of another
  sum_forward_aft : (aft fore : ℤ) → aft ≤ℤ fore → (t : Tetrahedron Position) → sum_over (aft_sum fore) (kept_pieces (cut_by (forward_of aft)) t) ≡ aft_sum fore t ⊖ aft_sum aft t
  sum_forward_aft aft fore h t = sum_over-same (aft_sum fore) (λ p. aft_sum fore p ⊖ aft_sum aft p) (kept_pieces (cut_by (forward_of aft)) t)
      (all-implied (IsKept (forward_of aft)) (λ p. aft_sum fore p ≡ aft_sum fore p ⊖ aft_sum aft p) (λ p k. less_nothing _ _ (none_aft p (none_below (forward_of aft) p k))) _ (kept (forward_of aft) t))
      ∙ sum_kept (cut_by (forward_of aft)) (forward_linear aft) (λ p. aft_sum fore p ⊖ aft_sum aft p)
      (difference_splits (forward_of aft) (forward_linear aft) (aft_sum fore) (aft_sum aft) (aft_splits (forward_of aft) (forward_linear aft) fore) (aft_splits (forward_of aft) (forward_linear aft) aft))
      dry t
    where
      none_aft : (p : Tetrahedron Position) → sides_none_below (cut_by (forward_of aft)) p → aft_sum aft p ≡ nought
      none_aft p n = aft_sum_none aft p (not_aft aft p.a n.0, not_aft aft p.b n.1, not_aft aft p.c n.2, not_aft aft p.d n.3)

      near : (p : Position) → sign (forward_of aft p) ≢ above → sign (aft_of fore p) ≢ below
      near p n = still_aft aft fore p h (not_forward aft p n)

      dry : (p : Tetrahedron Position) → sides_none_above (cut_by (forward_of aft)) p → aft_sum fore p ⊖ aft_sum aft p ≡ nought
      dry p n = no_difference _ _ (aft_sum_whole fore p (near p.a n.0, near p.b n.1, near p.c n.2, near p.d n.3)
          ∙ sym (aft_sum_whole aft p (not_forward aft p.a n.0, not_forward aft p.b n.1, not_forward aft p.c n.2, not_forward aft p.d n.3)))

  -- the pieces from one place to another
  pub sum_between : (aft fore : ℤ) → aft ≤ℤ fore → (t : Tetrahedron Position) → sum_over (over_faces f) (pieces_between aft fore t) ≡ aft_sum fore t ⊖ aft_sum aft t
  unfolding pieces_between
  sum_between aft fore h t = sum_over-flat_map (over_faces f) (kept_pieces (cut_by (aft_of fore))) (kept_pieces (cut_by (forward_of aft)) t)
      ∙ (λ i. sum_over (λ p. sum_aft fore p i) (kept_pieces (cut_by (forward_of aft)) t))
      ∙ sum_forward_aft aft fore h t
