-- The law of the lid of one tetrahedron: the integrals over the lids of its kept pieces are what is seen of its outward faces from above.
use native.Mathlib.Omega.{arith}
use mathlib.Core.Path.{◌≡◌, refl, sym, ◌∙◌, ap}
use mathlib.Core.List.{List, [], ◌∷◌}
use mathlib.Core.Logic.{◌≢◌}
use mathlib.Core.Bool.{Bool, true, false}
use lib.IntN.{ℤ, pos}
use Rattle.exact_algebra.specs.Expression.{Expression, var, unit, number, ◌:+◌, ◌:-◌, ◌:*◌, opposite}
use Rattle.exact_algebra.specs.OrderedField.{Sign, below, level, above}
use Rattle.exact_algebra.proofs.Ring.{ring, ring_from, none, given}
use Rattle.exact_algebra.proofs.Fraction.{Fraction, nought, one, ◌⊕◌, ◌⊗◌, ◌⊖◌, negative, inverse, sign, fractions, fraction_ring}
use Rattle.exact_algebra.proofs.Whole.{whole, whole-mul, whole-nought}
use Rattle.exact_algebra.proofs.Order as Order
use Rattle.hull_model.specs.Fractions.{magnitude, sum_over}
use Rattle.hull_model.specs.TriangleCut.{Triangle, triangle, Corners, side}
use Rattle.hull_model.specs.TetrahedronCut.{Tetrahedron, is_kept_by, is_kept, kept_pieces}
use Rattle.hull_model.specs.Waterplane.{Waterplane, Position, side_distance, upright, under}
use Rattle.hull_model.specs.Submerged.{determinant}
use Rattle.hull_model.specs.Lid.{lid_by, lid_of, level_area, at_corners}
use Rattle.hull_model.proofs.WetSum.{N12}
use Rattle.hull_model.proofs.ShareSplits.{sum_over-one, magnitude-negative}
use Rattle.hull_model.proofs.TriangleLaws.{twelve-twelfth}
use Rattle.hull_polyhedron.specs.Columns.{depth, seen_sum}
use Rattle.hull_polyhedron.specs.CentralLaw.{faces_turned, PointOutwards}
use Rattle.hull_polyhedron.proofs.Flux.{fluxes, area, ar, A, B, C}
use Rattle.hull_polyhedron.proofs.Flux.{D}
use Rattle.hull_polyhedron.proofs.Pieces.{kept_none_below, sides_none_below}
use Rattle.hull_model.proofs.EdgeSplits.{IsLinearFunction}
use Rattle.hull_polyhedron.proofs.Placed.{area_of, six_by, sum_four, vertex, flow, face_by, form_none_below, whole_face, whole_faces, whole-faces}
use Rattle.hull_polyhedron.proofs.Determinants.{with_sign, with_sign-mul, IsRight, magnitude_signed, six_determinant}
use Rattle.hull_polyhedron.proofs.SeenForm.{N24, whole_inverse}
use Rattle.hull_polyhedron.proofs.PieceSums.{pieces_by_faces}
use Rattle.hull_polyhedron.proofs.OneTetrahedron.{IsFlat}

-- the integral over a level triangle of the product of two linear functions
abbrev pub lid_term : (Position → Fraction) → (Position → Fraction) → Triangle Position → Fraction
lid_term f g t = level_area t ⊗ (at_corners (λ p. f p ⊗ g p) t ⊕ at_corners f t ⊗ at_corners g t) ⊗ inverse N12

false-ne-true : false ≡ true → ⊥
false-ne-true h = cc

module _ (at : Fraction) (first last : ℤ) where
  abbrev plane : Waterplane
  plane = upright at

  abbrev corners : Corners Position
  corners = under plane first last

  abbrev h : Position → Fraction
  h = depth plane first last

  -- ---- areas
  pub upright-side : (p : Position) → side_distance plane p ≡ negative p.y
  unfolding side_distance
  upright-side p = ring_from fraction_ring (p.y ∷ p.z ∷ whole (pos 0) ∷ whole (pos 1) ∷ inverse (whole (pos 1)) ∷ [])
      ((var 1 :* var 4, var 2, number 0) ∷ (opposite (var 0), var 3 :* var 4, unit) ∷ []) (given whole-nought (given (whole_inverse 1 (omega arith)) none))
      ((var 2 :* var 1 :- var 3 :* var 0) :* var 4) (opposite (var 0)) refl

  level-area : (p q r : Position) → level_area (triangle p q r) ≡ magnitude (area_of plane p q r) ⊗ inverse (whole (pos 2))
  unfolding level_area
  level-area p q r = ap (λ x. magnitude x ⊗ inverse (whole (pos 2))) turn ∙ ap (λ x. x ⊗ inverse (whole (pos 2))) (magnitude-negative (area_of plane p q r))
    where
      turn : (q.x ⊖ p.x) ⊗ (r.y ⊖ p.y) ⊖ (r.x ⊖ p.x) ⊗ (q.y ⊖ p.y) ≡ negative (area_of plane p q r)
      turn = ring_from fraction_ring (p.x ∷ p.y ∷ q.x ∷ q.y ∷ r.x ∷ r.y ∷ side_distance plane p ∷ side_distance plane q ∷ side_distance plane r ∷ [])
          (((var 4 :- var 0) :- (var 2 :- var 0), var 6, opposite (var 1)) ∷ (opposite (var 4 :- var 0), var 7, opposite (var 3)) ∷ (var 2 :- var 0, var 8, opposite (var 5)) ∷ [])
          (given (upright-side p) (given (upright-side q) (given (upright-side r) none)))
          (ar (var 0, var 1) (var 2, var 3) (var 4, var 5)) (opposite (ar (var 0, var 6) (var 2, var 7) (var 4, var 8))) refl

  -- the determinant by the depths over each face
  determinant-faces : (t : Tetrahedron Position)
      → determinant t ≡ h t.b ⊗ area_of plane t.a t.c t.d ⊖ h t.a ⊗ area_of plane t.b t.c t.d ⊖ h t.c ⊗ area_of plane t.a t.b t.d ⊕ h t.d ⊗ area_of plane t.a t.b t.c
  unfolding six_by
  determinant-faces t = sym (six_determinant plane first last t)
      ∙ ring fraction_ring (one ∷ t.a.x ∷ v t.a ∷ t.b.x ∷ v t.b ∷ t.c.x ∷ v t.c ∷ t.d.x ∷ v t.d ∷ h t.a ∷ h t.b ∷ h t.c ∷ h t.d ∷ [])
      ((var 12 :- var 9) :* ar A B C :- (var 11 :- var 9) :* ar A B D :+ (var 10 :- var 9) :* ar A C D)
      (var 10 :* ar A C D :- var 9 :* ar B C D :- var 11 :* ar A B D :+ var 12 :* ar A B C) refl
    where
      v : Position → Fraction
      v = side_distance plane

  module _ (f g : Position → Fraction) where
    lid_term-form : (p q r : Position) → lid_term f g (triangle p q r) ⊗ N24 ≡ magnitude (area_of plane p q r) ⊗ whole_face plane first last f g p q r
    lid_term-form p q r = ring_from fraction_ring
        (level_area (triangle p q r) ∷ magnitude (area_of plane p q r) ∷ inverse (whole (pos 2)) ∷ whole_face plane first last f g p q r ∷ inverse N12 ∷ N24 ∷ whole (pos 2) ∷ N12 ∷ [])
        ((var 3 :* var 4 :* var 5, var 0, var 1 :* var 2) ∷ (var 1 :* var 2 :* var 3 :* var 4, var 5, var 6 :* var 7) ∷ (var 1 :* var 3 :* var 4 :* var 7, var 6 :* var 2, unit) ∷ (var 1 :* var 3, var 7 :* var 4, unit) ∷ [])
        (given (level-area p q r) (given (whole-mul (pos 2) (pos 12)) (given (whole_inverse 2 (omega arith)) (given twelve-twelfth none))))
        (((var 0 :* var 3) :* var 4) :* var 5) (var 1 :* var 3) refl

    -- ---- a kept piece
    module _ (f_flat : IsFlat plane first last f) (g_flat : IsFlat plane first last g) (outwards : Bool) (t : Tetrahedron Position) where
      abbrev whole_of : Position → Position → Position → Fraction
      whole_of = whole_face plane first last f g

      abbrev area_at : Position → Position → Position → Fraction
      area_at = area_of plane

      abbrev lids : List (Triangle Position) → Fraction
      lids ts = sum_over (lid_term f g) ts

      -- with the whole of each face the sum is 0
      none_left : whole_faces plane first last f g t ≡ nought
      none_left = ring_from fraction_ring (whole_faces plane first last f g t ∷ six_by plane first last g t ∷ six_by plane first last f t ∷ sum_four f t ∷ sum_four g t ∷ [])
          ((unit, var 0, var 1 :* var 3 :+ var 2 :* var 4) ∷ (var 3, var 1, number 0) ∷ (var 4, var 2, number 0) ∷ [])
          (given (whole-faces plane first last f g t) (given (g_flat t) (given (f_flat t) none))) (var 0) (number 0) refl

      -- the faces by the sides of their corners
      unfoldable by_sides : Sign → Sign → Sign → Sign → Fraction
      by_sides p q r s = area_at t.b t.c t.d ⊗ face_by q r s (whole_of t.b t.c t.d) ⊖ area_at t.a t.c t.d ⊗ face_by p r s (whole_of t.a t.c t.d)
          ⊕ area_at t.a t.b t.d ⊗ face_by p q s (whole_of t.a t.b t.d) ⊖ area_at t.a t.b t.c ⊗ face_by p q r (whole_of t.a t.b t.c)

      flow-sides : sides_none_below corners t → flow plane first last f g t ≡ by_sides (side corners t.a) (side corners t.b) (side corners t.c) (side corners t.d)
      unfolding flow fluxes area by_sides
      flow-sides n = λ i. area_at t.b t.c t.d ⊗ form_none_below (vertex_at t.b) (vertex_at t.c) (vertex_at t.d) n.1 n.2 n.3 i
          ⊖ area_at t.a t.c t.d ⊗ form_none_below (vertex_at t.a) (vertex_at t.c) (vertex_at t.d) n.0 n.2 n.3 i
          ⊕ area_at t.a t.b t.d ⊗ form_none_below (vertex_at t.a) (vertex_at t.b) (vertex_at t.d) n.0 n.1 n.3 i
          ⊖ area_at t.a t.b t.c ⊗ form_none_below (vertex_at t.a) (vertex_at t.b) (vertex_at t.c) n.0 n.1 n.2 i
        where
          vertex_at : Position → Fraction × Fraction × Fraction
          vertex_at p = (vertex plane first last f g p).at

      -- every face has a corner above
      no_lid : lids [] ⊗ N24 ≡ with_sign outwards (whole_faces plane first last f g t)
      unfolding sum_over
      no_lid = go outwards
        where
          go : (b : Bool) → nought ⊗ N24 ≡ with_sign b (whole_faces plane first last f g t)
          go true = ring_from fraction_ring (N24 ∷ whole_faces plane first last f g t ∷ []) ((opposite unit, var 1, number 0) ∷ []) (given none_left none) (number 0 :* var 0) (var 1) refl
          go false = ring_from fraction_ring (N24 ∷ whole_faces plane first last f g t ∷ []) ((unit, var 1, number 0) ∷ []) (given none_left none) (number 0 :* var 0) (opposite (var 1)) refl

      -- one corner is above, at the depth k; the area of the face of the three others, with the sign of the determinant
      one_lid : (p q r : Position) (area k : Fraction) → magnitude (area_at p q r) ≡ magnitude area → sign k ≡ above → determinant t ≡ area ⊗ k → IsRight outwards t
          → lids (triangle p q r ∷ []) ⊗ N24 ≡ with_sign outwards (area ⊗ whole_of p q r)
      one_lid p q r area k same up e right = ap (λ x. x ⊗ N24) (sum_over-one (lid_term f g) (triangle p q r)) ∙ lid_term-form p q r
          ∙ ap (λ m. m ⊗ whole_of p q r) (same ∙ magnitude_signed outwards area area_right) ∙ with_sign-mul outwards area (whole_of p q r)
        where
          area_right : sign (with_sign outwards area) ≢ below
          area_right = Order.nonnegative_factor fractions up (Order.nonnegative_same fractions (with_sign-mul outwards area k ∙ ap (with_sign outwards) (sym e)) right)

      at_nought : (p : Position) → sign (h p) ≡ level → h p ≡ nought
      at_nought p e = fractions.laws.nought_from_sign (h p) e

      -- depths, areas of the faces, and the whole of each
      abbrev values : List Fraction
      values = determinant t ∷ h t.a ∷ h t.b ∷ h t.c ∷ h t.d ∷ area_at t.b t.c t.d ∷ area_at t.a t.c t.d ∷ area_at t.a t.b t.d ∷ area_at t.a t.b t.c
          ∷ whole_of t.b t.c t.d ∷ whole_of t.a t.c t.d ∷ whole_of t.a t.b t.d ∷ whole_of t.a t.b t.c ∷ []

      abbrev Equation : Type 0
      Equation = Expression × Expression × Expression

      abbrev over_faces : Equation
      over_faces = (unit, var 0, var 2 :* var 6 :- var 1 :* var 5 :- var 3 :* var 7 :+ var 4 :* var 8)

      abbrev level_a : Equation
      level_a = (opposite (var 5), var 1, number 0)

      abbrev level_b : Equation
      level_b = (var 6, var 2, number 0)

      abbrev level_c : Equation
      level_c = (opposite (var 7), var 3, number 0)

      abbrev level_d : Equation
      level_d = (var 8, var 4, number 0)

      abbrev whole_sum : Equation
      whole_sum = (opposite unit, var 5 :* var 9 :- var 6 :* var 10 :+ var 7 :* var 11 :- var 8 :* var 12, number 0)

      lid_by_sides : (p q r s : Sign) → sign (h t.a) ≡ p → sign (h t.b) ≡ q → sign (h t.c) ≡ r → sign (h t.d) ≡ s → is_kept_by p q r s ≡ true → IsRight outwards t
          → lids (lid_by p q r s t.a t.b t.c t.d) ⊗ N24 ≡ with_sign outwards (by_sides p q r s)
      unfolding by_sides face_by whole_faces
      lid_by_sides above level level level e j k l kept right =
          one_lid t.b t.c t.d (negative (area_at t.b t.c t.d)) (h t.a) (sym (magnitude-negative (area_at t.b t.c t.d))) e
          (ring_from fraction_ring values (over_faces ∷ level_b ∷ level_c ∷ level_d ∷ []) (given (determinant-faces t) (given (at_nought t.b j) (given (at_nought t.c k) (given (at_nought t.d l) none)))) (var 0) (opposite (var 5) :* var 1) refl) right
          ∙ ap (with_sign outwards) (ring_from fraction_ring values (whole_sum ∷ []) (given none_left none) (opposite (var 5) :* var 9) (var 5 :* number 0 :- var 6 :* var 10 :+ var 7 :* var 11 :- var 8 :* var 12) refl)
      lid_by_sides level above level level e j k l kept right =
          one_lid t.a t.c t.d (area_at t.a t.c t.d) (h t.b) refl j
          (ring_from fraction_ring values (over_faces ∷ level_a ∷ level_c ∷ level_d ∷ []) (given (determinant-faces t) (given (at_nought t.a e) (given (at_nought t.c k) (given (at_nought t.d l) none)))) (var 0) (var 6 :* var 2) refl) right
          ∙ ap (with_sign outwards) (ring_from fraction_ring values (whole_sum ∷ []) (given none_left none) (var 6 :* var 10) (var 5 :* var 9 :- var 6 :* number 0 :+ var 7 :* var 11 :- var 8 :* var 12) refl)
      lid_by_sides level level above level e j k l kept right =
          one_lid t.a t.b t.d (negative (area_at t.a t.b t.d)) (h t.c) (sym (magnitude-negative (area_at t.a t.b t.d))) k
          (ring_from fraction_ring values (over_faces ∷ level_a ∷ level_b ∷ level_d ∷ []) (given (determinant-faces t) (given (at_nought t.a e) (given (at_nought t.b j) (given (at_nought t.d l) none)))) (var 0) (opposite (var 7) :* var 3) refl) right
          ∙ ap (with_sign outwards) (ring_from fraction_ring values (whole_sum ∷ []) (given none_left none) (opposite (var 7) :* var 11) (var 5 :* var 9 :- var 6 :* var 10 :+ var 7 :* number 0 :- var 8 :* var 12) refl)
      lid_by_sides level level level above e j k l kept right =
          one_lid t.a t.b t.c (area_at t.a t.b t.c) (h t.d) refl l
          (ring_from fraction_ring values (over_faces ∷ level_a ∷ level_b ∷ level_c ∷ []) (given (determinant-faces t) (given (at_nought t.a e) (given (at_nought t.b j) (given (at_nought t.c k) none)))) (var 0) (var 8 :* var 4) refl) right
          ∙ ap (with_sign outwards) (ring_from fraction_ring values (whole_sum ∷ []) (given none_left none) (var 8 :* var 12) (var 5 :* var 9 :- var 6 :* var 10 :+ var 7 :* var 11 :- var 8 :* number 0) refl)
      lid_by_sides above level level above e j k l kept right = no_lid
      lid_by_sides above level level below e j k l kept right = no_lid
      lid_by_sides above level above s e j k l kept right = no_lid
      lid_by_sides above level below s e j k l kept right = no_lid
      lid_by_sides above above r s e j k l kept right = no_lid
      lid_by_sides above below r s e j k l kept right = no_lid
      lid_by_sides level above level above e j k l kept right = no_lid
      lid_by_sides level above level below e j k l kept right = no_lid
      lid_by_sides level above above s e j k l kept right = no_lid
      lid_by_sides level above below s e j k l kept right = no_lid
      lid_by_sides level level above above e j k l kept right = no_lid
      lid_by_sides level level above below e j k l kept right = no_lid
      lid_by_sides level level level level e j k l kept right = absurd (false-ne-true kept)
      lid_by_sides level level level below e j k l kept right = absurd (false-ne-true kept)
      lid_by_sides level level below s e j k l kept right = absurd (false-ne-true kept)
      lid_by_sides level below r s e j k l kept right = absurd (false-ne-true kept)
      lid_by_sides below q r s e j k l kept right = absurd (false-ne-true kept)

      lid_piece : is_kept corners t ≡ true → IsRight outwards t → lids (lid_of corners t) ⊗ N24 ≡ with_sign outwards (flow plane first last f g t)
      lid_piece kept right = lid_by_sides (side corners t.a) (side corners t.b) (side corners t.c) (side corners t.d) refl refl refl refl kept right
          ∙ ap (with_sign outwards) (sym (flow-sides (kept_none_below (side corners t.a) (side corners t.b) (side corners t.c) (side corners t.d) kept)))

    -- f and g are linear, and each is the same at all heights
    pub lids_by_faces : IsLinearFunction f → IsLinearFunction g → IsFlat plane first last f → IsFlat plane first last g → (outwards : Bool) (t : Tetrahedron Position) → PointOutwards outwards t
        → sum_over (λ p. sum_over (lid_term f g) (lid_of corners p)) (kept_pieces corners t) ≡ seen_sum plane first last f g (faces_turned outwards t)
    lids_by_faces f_linear g_linear f_flat g_flat outwards t out =
        pieces_by_faces plane first last f g f_linear g_linear (λ p. sum_over (lid_term f g) (lid_of corners p)) outwards (lid_piece f_flat g_flat outwards) t out
