-- The law of slabs of one tetrahedron: what is seen of the faces of its pieces between two places is what is seen of the parts of its faces there.
use Prim.Native.Nat.{ℕ}
use mathlib.Core.Path.{◌≡◌, refl, sym, ◌∙◌, ap, ap₂}
use mathlib.Core.List.{List, [], ◌∷◌}
use mathlib.Core.Bool.{Bool, true, false}
use lib.IntN.{ℤ, pos}
use Rattle.std.specs.List.{flat_map, AllByRecursion}
use Rattle.exact_algebra.specs.Expression.{Expression, var, unit, number, ◌:+◌, ◌:-◌, ◌:*◌, opposite}
use Rattle.exact_algebra.specs.OrderedField.{level}
use Rattle.exact_algebra.proofs.Ring.{ring, ring_from, none, given}
use Rattle.exact_algebra.proofs.Fraction.{Fraction, nought, ◌⊕◌, ◌⊗◌, ◌⊖◌, negative, inverse, sign, fractions, fraction_ring}
use Rattle.exact_algebra.proofs.Whole.{whole}
use Rattle.exact_algebra.proofs.WetForm as Form
use Rattle.hull_model.specs.FaceParts.{parts_between}
use Rattle.hull_model.specs.Flooded.{cut_by, forward_of, aft_of, pieces_between}
use Rattle.hull_model.specs.Fractions.{sum_over}
use Rattle.hull_model.specs.TriangleCut.{Triangle, triangle}
use Rattle.hull_model.specs.TetrahedronCut.{Tetrahedron, is_kept}
use Rattle.hull_model.specs.TetrahedronCut as Solid
use Rattle.hull_model.specs.Waterplane.{Waterplane, Position, under}
use Rattle.hull_model.specs.WetMean.{product_mean, wet_mean}
use Rattle.hull_model.proofs.Rounds.{append}
use Rattle.hull_polyhedron.specs.Columns.{depth, by_corners, seen_area, seen_part, seen_sum}
use Rattle.hull_polyhedron.specs.CentralLaw.{faces_turned, PointOutwards}
use Rattle.hull_polyhedron.proofs.Flux.{Vertex, between, form, area, flux, ar}
use Rattle.hull_polyhedron.proofs.Placed.{vertex, vertex-between}
use Rattle.hull_polyhedron.proofs.Pieces.{all_kept}
use Rattle.hull_polyhedron.proofs.Determinants.{with_sign, IsRight, right_outwards, outwards_right, right_parts}
use Rattle.hull_polyhedron.proofs.SeenForm.{N24, cancel_24, seen-form, seen-turned, seen-rotated}
use Rattle.hull_model.specs.TriangleSums.{on, Function, IsAlternating, AddsUp, value}
use Rattle.hull_model.proofs.EdgeSplits.{IsLinearFunction, swap_last}
use Rattle.hull_model.proofs.KeptPart.{tip, kept_part, kept_part-none}
use Rattle.hull_model.proofs.PartSums.{sum_over-flat_map, forward_linear, aft_linear, aft_part, part_between, inside_edges, aft_part-alternating, aft_part-adds, part_between-alternating, all_parts-sum}
use Rattle.hull_polyhedron.proofs.FacePieces.{over_faces, kept_faces}

-- ---- sums over lists
pub sum_signed : {A : Type 0} (b : Bool) (f : A → Fraction) (xs : List A) → sum_over (λ x. with_sign b (f x)) xs ≡ with_sign b (sum_over f xs)
unfolding sum_over
sum_signed true f xs = refl
sum_signed false f [] = ring fraction_ring [] (number 0) (opposite (number 0)) refl
sum_signed false f (x ∷ xs) = ap (λ s. negative (f x) ⊕ s) (sum_signed false f xs) ∙ ring fraction_ring (f x ∷ sum_over f xs ∷ []) (opposite (var 0) :+ opposite (var 1)) (opposite (var 0 :+ var 1)) refl

-- ---- the faces of a tetrahedron, turned one way or the other
pub faces-sum : (k : Function) → IsAlternating k → (b : Bool) (t : Tetrahedron Position) → sum_over (value k) (faces_turned b t) ≡ with_sign b (over_faces k t)
unfolding sum_over
faces-sum k alternating true t = ring_from fraction_ring (k t.b t.c t.d ∷ k t.a t.d t.c ∷ k t.a t.c t.d ∷ k t.a t.b t.d ∷ k t.a t.c t.b ∷ k t.a t.b t.c ∷ [])
    ((unit, var 1, opposite (var 2)) ∷ (unit, var 4, opposite (var 5)) ∷ []) (given (swap_last k alternating t.a t.c t.d) (given (swap_last k alternating t.a t.b t.c) none))
    (var 0 :+ (var 1 :+ (var 3 :+ (var 4 :+ number 0)))) (var 0 :- var 2 :+ var 3 :- var 5) refl
faces-sum k alternating false t = ring_from fraction_ring
    (k t.c t.b t.d ∷ k t.b t.c t.d ∷ k t.d t.a t.c ∷ k t.a t.d t.c ∷ k t.a t.c t.d ∷ k t.b t.a t.d ∷ k t.a t.b t.d ∷ k t.c t.a t.b ∷ k t.a t.b t.c ∷ [])
    ((unit, var 0, opposite (var 1)) ∷ (unit, var 2, opposite (var 3)) ∷ (opposite unit, var 3, opposite (var 4)) ∷ (unit, var 5, opposite (var 6)) ∷ (opposite unit, var 8, var 7) ∷ [])
    (given (alternating.swap t.b t.c t.d) (given (alternating.swap t.a t.d t.c) (given (swap_last k alternating t.a t.c t.d) (given (alternating.swap t.a t.b t.d) (given (alternating.roll t.c t.a t.b) none)))))
    (var 0 :+ (var 2 :+ (var 5 :+ (var 7 :+ number 0)))) (opposite (var 1 :- var 4 :+ var 6 :- var 8)) refl

-- ---- what is seen of a face adds up at each point of an edge
flux-split : (t : Fraction) (p q r : Vertex) → flux p q r ≡ flux p (between t p q) r ⊕ flux (between t p q) q r
unfolding area
flux-split t p q r = ring_from fraction_ring (t ∷ p.x ∷ p.v ∷ q.x ∷ q.v ∷ r.x ∷ r.v ∷ form p.at q.at r.at ∷ form p.at m r.at ∷ form m q.at r.at ∷ [])
    ((ar P Q R, var 7, var 0 :* var 8 :+ (unit :- var 0) :* var 9) ∷ []) (given (Form.split_first fractions t p.at q.at r.at) none)
    (ar P Q R :* var 7) (ar P M R :* var 8 :+ ar M Q R :* var 9) refl
  where
    m : Form.Corner fractions
    m = Form.point fractions t p.at q.at

    P : Expression × Expression
    P = (var 1, var 2)

    Q : Expression × Expression
    Q = (var 3, var 4)

    R : Expression × Expression
    R = (var 5, var 6)

    M : Expression × Expression
    M = ((unit :- var 0) :* var 1 :+ var 0 :* var 3, (unit :- var 0) :* var 2 :+ var 0 :* var 4)

module _ (plane : Waterplane) where
  -- ---- triangles that aren't seen
  abbrev pub Vanishes : Function → Type 0
  Vanishes k = (a b c : Position) → seen_area plane (triangle a b c) ≡ nought → k a b c ≡ nought

  abbrev at_positions : Position → Position → Position → List Fraction
  at_positions a b c = whole (pos plane.c) ∷ whole (pos plane.s) ∷ inverse (whole (pos plane.r)) ∷ a.x ∷ a.y ∷ a.z ∷ b.x ∷ b.y ∷ b.z ∷ c.x ∷ c.y ∷ c.z ∷ []

  abbrev Point : Type 0
  Point = Expression × Expression × Expression

  -- the area seen, by the coordinates
  abbrev area_at : Point → Point → Point → Expression
  area_at a b c = opposite (var 1 :* ((b.2 :- a.2) :* (c.0 :- a.0) :- (b.0 :- a.0) :* (c.2 :- a.2)) :+ var 0 :* ((b.0 :- a.0) :* (c.1 :- a.1) :- (b.1 :- a.1) :* (c.0 :- a.0))) :* var 2

  abbrev A : Point
  A = (var 3, var 4, var 5)

  abbrev B : Point
  B = (var 6, var 7, var 8)

  abbrev C : Point
  C = (var 9, var 10, var 11)

  area-rolled : (a b c : Position) → seen_area plane (triangle b c a) ≡ seen_area plane (triangle a b c)
  unfolding seen_area
  area-rolled a b c = ring fraction_ring (at_positions a b c) (area_at B C A) (area_at A B C) refl

  area-tip : (s t : Fraction) (a b c : Position) → seen_area plane (triangle a (on s a b) (on t a c)) ≡ s ⊗ t ⊗ seen_area plane (triangle a b c)
  unfolding seen_area
  area-tip s t a b c = ring fraction_ring (whole (pos plane.c) ∷ whole (pos plane.s) ∷ inverse (whole (pos plane.r)) ∷ a.x ∷ a.y ∷ a.z ∷ b.x ∷ b.y ∷ b.z ∷ c.x ∷ c.y ∷ c.z ∷ s ∷ t ∷ [])
      (area_at A (along 12 A B) (along 13 A C)) (var 12 :* var 13 :* area_at A B C) refl
    where
      along : ℕ → Point → Point → Point
      along n p q = ((unit :- var n) :* p.0 :+ var n :* q.0, (unit :- var n) :* p.1 :+ var n :* q.1, (unit :- var n) :* p.2 :+ var n :* q.2)

  -- all three in a plane of constant x
  pub area-across : (a b c : Position) → b.x ≡ a.x → c.x ≡ a.x → seen_area plane (triangle a b c) ≡ nought
  unfolding seen_area
  area-across a b c e f = ring_from fraction_ring (at_positions a b c)
      (((var 1 :* (var 11 :- var 5) :- var 0 :* (var 10 :- var 4)) :* var 2, var 6, var 3) ∷ ((var 0 :* (var 7 :- var 4) :- var 1 :* (var 8 :- var 5)) :* var 2, var 9, var 3) ∷ [])
      (given e (given f none)) (area_at A B C) (number 0) refl

  kept_part-vanishes : (d : Position → Fraction) (k : Function) → Vanishes k → Vanishes (kept_part d k)
  kept_part-vanishes d k vanishes a b c e = kept_part-none d k a b c (vanishes a b c e) (at_tip a b c e) (at_tip b c a (area-rolled a b c ∙ e)) (at_tip c a b (sym (area-rolled c a b) ∙ e))
    where
      at_tip : (a b c : Position) → seen_area plane (triangle a b c) ≡ nought → tip d k a b c ≡ nought
      at_tip a b c e = vanishes _ _ _ (area-tip _ _ a b c ∙ ring_from fraction_ring (s ∷ t ∷ seen_area plane (triangle a b c) ∷ []) ((var 0 :* var 1, var 2, number 0) ∷ []) (given e none) (var 0 :* var 1 :* var 2) (number 0) refl)
        where
          s : Fraction
          s = d a ⊗ inverse (d a ⊖ d b)

          t : Fraction
          t = d a ⊗ inverse (d a ⊖ d c)

  module _ (first last : ℤ) (f g : Position → Fraction) where
    -- what is seen of a triangle by its corners
    abbrev pub seen : Function
    seen a b c = seen_part plane first last f g (triangle a b c)

    pub seen-alternating : IsAlternating seen
    seen-alternating = record { swap = λ a b c. seen-turned plane first last f g (triangle a b c); roll = λ a b c. seen-rotated plane first last f g (triangle a b c) }

    pub seen-vanishes : Vanishes seen
    unfolding seen_part
    seen-vanishes a b c e = ring_from fraction_ring (seen_area plane (triangle a b c) ∷ inverse (whole (pos 2)) ∷ wet ∷ []) ((var 1 :* var 2, var 0, number 0) ∷ []) (given e none) ((var 0 :* var 1) :* var 2) (number 0) refl
      where
        wet : Fraction
        wet = wet_mean (product_mean (by_corners (f a) (f b) (f c)) (by_corners (g a) (g b) (g c))) (depth plane first last a) (depth plane first last b) (depth plane first last c)

    module _ (f_linear : IsLinearFunction f) (g_linear : IsLinearFunction g) where
      pub seen-adds : AddsUp seen
      seen-adds t a b c = cancel_24 (ring_from fraction_ring (seen a b c ∷ seen a m c ∷ seen m b c ∷ N24 ∷ flux (at a) (at b) (at c) ∷ flux (at a) (at m) (at c) ∷ flux (at m) (at b) (at c) ∷ [])
          ((unit, var 0 :* var 3, var 4) ∷ (unit, var 4, var 5 :+ var 6) ∷ (opposite unit, var 1 :* var 3, var 5) ∷ (opposite unit, var 2 :* var 3, var 6) ∷ [])
          (given (seen-form plane first last f g (triangle a b c))
          (given (flux-split t (at a) (at b) (at c) ∙ ap (λ (v : Vertex). flux (at a) v (at c) ⊕ flux v (at b) (at c)) (vertex-between plane first last f g f_linear g_linear t a b))
          (given (seen-form plane first last f g (triangle a m c)) (given (seen-form plane first last f g (triangle m b c)) none))))
          (var 0 :* var 3) ((var 1 :+ var 2) :* var 3) refl)
        where
          m : Position
          m = on t a b

          at : Position → Vertex
          at p = vertex plane first last f g p

      -- ---- between two places
      module _ (aft fore : ℤ) where
        abbrev aft_seen : Function
        aft_seen = aft_part fore seen

        abbrev pub part_of : Function
        part_of = part_between aft fore seen

        pub part-alternating : IsAlternating part_of
        part-alternating = part_between-alternating aft fore seen seen-alternating seen-adds

        aft-vanishes : Vanishes aft_seen
        aft-vanishes = kept_part-vanishes (aft_of fore) seen seen-vanishes

        pub part-vanishes : Vanishes part_of
        part-vanishes = kept_part-vanishes (forward_of aft) aft_seen aft-vanishes

        -- triangles in one of the two planes
        level_at_fore : (a b c : Position) → sign (aft_of fore a) ≡ level → sign (aft_of fore b) ≡ level → sign (aft_of fore c) ≡ level → seen a b c ≡ nought
        level_at_fore a b c x y z = seen-vanishes a b c (area-across a b c (same b a y x) (same c a z x))
          where
            same : (p q : Position) → sign (aft_of fore p) ≡ level → sign (aft_of fore q) ≡ level → p.x ≡ q.x
            same p q e f = ring_from fraction_ring (p.x ∷ q.x ∷ whole fore ∷ []) ((opposite unit, var 2 :- var 0, number 0) ∷ (unit, var 2 :- var 1, number 0) ∷ [])
                (given (fractions.laws.nought_from_sign _ e) (given (fractions.laws.nought_from_sign _ f) none)) (var 0) (var 1) refl

        level_at_aft : (a b c : Position) → sign (forward_of aft a) ≡ level → sign (forward_of aft b) ≡ level → sign (forward_of aft c) ≡ level → aft_seen a b c ≡ nought
        level_at_aft a b c x y z = aft-vanishes a b c (area-across a b c (same b a y x) (same c a z x))
          where
            same : (p q : Position) → sign (forward_of aft p) ≡ level → sign (forward_of aft q) ≡ level → p.x ≡ q.x
            same p q e f = ring_from fraction_ring (p.x ∷ q.x ∷ whole aft ∷ []) ((unit, var 0 :- var 2, number 0) ∷ (opposite unit, var 1 :- var 2, number 0) ∷ [])
                (given (fractions.laws.nought_from_sign _ e) (given (fractions.laws.nought_from_sign _ f) none)) (var 0) (var 1) refl

        -- the faces of the pieces of a tetrahedron
        pieces-faces : (t : Tetrahedron Position) → sum_over (over_faces seen) (pieces_between aft fore t) ≡ over_faces part_of t
        unfolding pieces_between
        pieces-faces t = sum_over-flat_map (over_faces seen) (Solid.kept_pieces (cut_by (aft_of fore))) (Solid.kept_pieces (cut_by (forward_of aft)) t)
            ∙ (λ i. sum_over (λ p. kept_faces (aft_of fore) (aft_linear fore) seen seen-alternating (inside_edges aft fore seen seen-alternating seen-adds) level_at_fore p i) (Solid.kept_pieces (cut_by (forward_of aft)) t))
            ∙ kept_faces (forward_of aft) (forward_linear aft) aft_seen (aft_part-alternating aft fore seen seen-alternating seen-adds) (aft_part-adds aft fore seen seen-alternating seen-adds) level_at_aft t

        -- the parts of triangles
        pub seen_parts-sum : (ts : List (Triangle Position)) → seen_sum plane first last f g (flat_map (parts_between aft fore) ts) ≡ sum_over (value part_of) ts
        seen_parts-sum ts = all_parts-sum aft fore seen seen-alternating seen-adds ts

        -- ---- a law of submerged pieces, summed over the pieces between the two places
        module _ (term : Tetrahedron Position → Fraction)
            (law : (b : Bool) (t : Tetrahedron Position) → PointOutwards b t → sum_over term (Solid.kept_pieces (under plane first last) t) ≡ seen_sum plane first last f g (faces_turned b t))
            (b : Bool) where
          -- pieces that are as right as the whole
          right_pieces : (ps : List (Tetrahedron Position)) → AllByRecursion (IsRight b) ps
              → sum_over (λ p. sum_over term (Solid.kept_pieces (under plane first last) p)) ps ≡ with_sign b (sum_over (over_faces seen) ps)
          unfolding sum_over
          right_pieces ps all = go ps all ∙ sum_signed b (over_faces seen) ps
            where
              go : (ps : List (Tetrahedron Position)) → AllByRecursion (IsRight b) ps → sum_over (λ p. sum_over term (Solid.kept_pieces (under plane first last) p)) ps ≡ sum_over (λ p. with_sign b (over_faces seen p)) ps
              go [] all = refl
              go (p ∷ ps) all = ap₂ ◌⊕◌ (law b p (outwards_right b p all.0) ∙ faces-sum seen seen-alternating b p) (go ps all.1)

          all_right : (d : Position → Fraction) → IsLinearFunction d → (t : Tetrahedron Position) → IsRight b t → AllByRecursion (IsRight b) (Solid.kept_pieces (cut_by d) t)
          all_right d d_linear t r = go (Solid.kept_pieces (cut_by d) t) (all_kept (cut_by d) (IsRight b) (right_parts d d_linear b) t r)
            where
              go : (ps : List (Tetrahedron Position)) → AllByRecursion (λ p. (is_kept (cut_by d) p ≡ true) × IsRight b p) ps → AllByRecursion (IsRight b) ps
              go [] all = tt
              go (p ∷ ps) all = (all.0.1, go ps all.1)

          right_between : (t : Tetrahedron Position) → IsRight b t → AllByRecursion (IsRight b) (pieces_between aft fore t)
          unfolding pieces_between
          right_between t r = go (Solid.kept_pieces (cut_by (forward_of aft)) t) (all_right (forward_of aft) (forward_linear aft) t r)
            where
              go : (ps : List (Tetrahedron Position)) → AllByRecursion (IsRight b) ps → AllByRecursion (IsRight b) (flat_map (Solid.kept_pieces (cut_by (aft_of fore))) ps)
              go [] all = tt
              go (p ∷ ps) all = append (IsRight b) (Solid.kept_pieces (cut_by (aft_of fore)) p) (flat_map (Solid.kept_pieces (cut_by (aft_of fore))) ps) (all_right (aft_of fore) (aft_linear fore) p all.0) (go ps all.1)

          pub slab_law : (t : Tetrahedron Position) → PointOutwards b t
              → sum_over term (flat_map (Solid.kept_pieces (under plane first last)) (pieces_between aft fore t)) ≡ sum_over (value part_of) (faces_turned b t)
          slab_law t out = sum_over-flat_map term (Solid.kept_pieces (under plane first last)) (pieces_between aft fore t)
              ∙ right_pieces (pieces_between aft fore t) (right_between t (right_outwards b t out))
              ∙ ap (with_sign b) (pieces-faces t)
              ∙ sym (faces-sum part_of part-alternating b t)
