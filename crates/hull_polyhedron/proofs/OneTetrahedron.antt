-- The central law of one tetrahedron: for volume and integrals, the sum over its kept pieces is the column sum over its outward faces.
use native.Mathlib.Omega.{arith}
use mathlib.Core.Path.{◌≡◌, refl, sym, ◌∙◌, ap, ap₂}
use mathlib.Core.List.{List, [], ◌∷◌}
use mathlib.Core.Bool.{Bool, true}
use lib.IntN.{ℤ, pos}
use Rattle.exact_algebra.specs.Expression.{Expression, var, unit, number, ◌:+◌, ◌:-◌, ◌:*◌, opposite}
use Rattle.exact_algebra.proofs.Ring.{ring, ring_from, none, given}
use Rattle.exact_algebra.proofs.Fraction.{Fraction, nought, one, ◌⊕◌, ◌⊗◌, inverse, fraction_ring}
use Rattle.exact_algebra.proofs.Whole.{whole, whole-add, whole-mul, whole-one}
use Rattle.hull_model.specs.Fractions.{magnitude, sum_over}
use Rattle.hull_model.specs.TriangleCut.{Corners, side}
use Rattle.hull_model.specs.TetrahedronCut.{Tetrahedron, is_kept, kept_pieces}
use Rattle.hull_model.specs.Waterplane.{Waterplane, Position, height, side_distance, under}
use Rattle.hull_model.specs.Submerged.{determinant, volume_of, mean_of}
use Rattle.hull_model.proofs.TetrahedronRounds.{depth_linear}
use Rattle.hull_polyhedron.specs.Columns.{depth, middle, column_sum}
use Rattle.hull_polyhedron.specs.CentralLaw.{AreColumnSums, faces_turned, PointOutwards, CentralLawOfTetrahedra}
use Rattle.hull_polyhedron.proofs.Flux.{ar, A, B, C}
use Rattle.hull_polyhedron.proofs.Flux.{D}
use Rattle.hull_polyhedron.proofs.Pieces.{kept_none_below}
use Rattle.hull_model.proofs.EdgeSplits.{IsLinearFunction}
use Rattle.hull_polyhedron.proofs.Placed.{side_linear, height_linear, sum_four, six_by, flow, flow_wet}
use Rattle.hull_polyhedron.proofs.Determinants.{with_sign, with_sign-mul, IsRight, magnitude_right, six_depth, six_determinant}
use Rattle.hull_polyhedron.proofs.SeenForm.{N24, whole_inverse, column_sum-seen}
use Rattle.hull_polyhedron.proofs.PieceSums.{pieces_by_faces}

-- ---- a twenty-fourth
pub whole_four : whole (pos 4) ≡ one ⊕ one ⊕ one ⊕ one
whole_four = whole-add (pos 3) (pos 1) ∙ ap₂ ◌⊕◌ (whole-add (pos 2) (pos 1) ∙ ap₂ ◌⊕◌ (whole-add (pos 1) (pos 1) ∙ ap₂ ◌⊕◌ whole-one whole-one) whole-one) whole-one

pub integral-term : (g : Position → Fraction) (p : Tetrahedron Position) → (volume_of p ⊗ mean_of g p) ⊗ N24 ≡ magnitude (determinant p) ⊗ sum_four g p
integral-term g p = ring_from fraction_ring (magnitude (determinant p) ∷ inverse (whole (pos 6)) ∷ sum_four g p ∷ inverse (whole (pos 4)) ∷ N24 ∷ whole (pos 6) ∷ whole (pos 4) ∷ [])
    ((var 0 :* var 1 :* var 2 :* var 3, var 4, var 5 :* var 6) ∷ (var 0 :* var 2 :* var 3 :* var 6, var 5 :* var 1, unit) ∷ (var 0 :* var 2, var 6 :* var 3, unit) ∷ [])
    (given (whole-mul (pos 6) (pos 4)) (given (whole_inverse 6 (omega arith)) (given (whole_inverse 4 (omega arith)) none)))
    (((var 0 :* var 1) :* (var 2 :* var 3)) :* var 4) (var 0 :* var 2) refl

pub volume-term : (p : Tetrahedron Position) → volume_of p ⊗ N24 ≡ magnitude (determinant p) ⊗ (one ⊕ one ⊕ one ⊕ one)
volume-term p = ring_from fraction_ring (magnitude (determinant p) ∷ inverse (whole (pos 6)) ∷ N24 ∷ whole (pos 6) ∷ whole (pos 4) ∷ [])
    ((var 0 :* var 1, var 2, var 3 :* var 4) ∷ (var 0 :* var 4, var 3 :* var 1, unit) ∷ (var 0, var 4, unit :+ unit :+ unit :+ unit) ∷ [])
    (given (whole-mul (pos 6) (pos 4)) (given (whole_inverse 6 (omega arith)) (given whole_four none)))
    ((var 0 :* var 1) :* var 2) (var 0 :* (unit :+ unit :+ unit :+ unit)) refl

module _ (plane : Waterplane) (first last : ℤ) where
  abbrev corners : Corners Position
  corners = under plane first last

  abbrev h : Position → Fraction
  h = depth plane first last

  abbrev six : (Position → Fraction) → Tetrahedron Position → Fraction
  six = six_by plane first last

  -- f at a position is the mean of g along the column over it: at a tetrahedron of which no corner lies above the waterplane, the closed
  -- forms by f add up to the integral of g
  abbrev pub IsMeanAlong : (g f : Position → Fraction) → Type 0
  IsMeanAlong g f = (t : Tetrahedron Position) → six h t ⊗ sum_four f t ⊕ six f t ⊗ sum_four h t ≡ six h t ⊗ sum_four g t

  module _ (g f : Position → Fraction) (f_linear : IsLinearFunction f) (mean_along : IsMeanAlong g f)
      (term : Tetrahedron Position → Fraction) (is_term : (p : Tetrahedron Position) → term p ⊗ N24 ≡ magnitude (determinant p) ⊗ sum_four g p) where
    abbrev flow_of : Tetrahedron Position → Fraction
    flow_of = flow plane first last f h

    -- a kept piece
    piece_flow : (p : Tetrahedron Position) → is_kept corners p ≡ true → flow_of p ≡ determinant p ⊗ sum_four g p
    piece_flow p k = flow_wet plane first last f p (kept_none_below (side corners p.a) (side corners p.b) (side corners p.c) (side corners p.d) k)
        ∙ mean_along p ∙ ap (λ x. x ⊗ sum_four g p) (six_determinant plane first last p)

    piece_term : (b : Bool) (p : Tetrahedron Position) → is_kept corners p ≡ true → IsRight b p → term p ⊗ N24 ≡ with_sign b (flow_of p)
    piece_term b p k right = is_term p ∙ ap (λ x. x ⊗ sum_four g p) (magnitude_right b p right) ∙ with_sign-mul b (determinant p) (sum_four g p) ∙ ap (with_sign b) (sym (piece_flow p k))

    pub column_law : (b : Bool) (t : Tetrahedron Position) → PointOutwards b t → sum_over term (kept_pieces corners t) ≡ column_sum plane first last f (faces_turned b t)
    column_law b t out = pieces_by_faces plane first last f h f_linear (depth_linear plane first last) term b (piece_term b) t out ∙ sym (column_sum-seen plane first last f (faces_turned b t))

  -- ---- the four pairs of functions
  six_of : Expression → Expression → Expression → Expression → Expression
  six_of a b c d = (d :- a) :* ar A B C :- (c :- a) :* ar A B D :+ (b :- a) :* ar A C D

  abbrev values : Tetrahedron Position → List Fraction
  values t = one ∷ t.a.x ∷ side_distance plane t.a ∷ t.b.x ∷ side_distance plane t.b ∷ t.c.x ∷ side_distance plane t.c ∷ t.d.x ∷ side_distance plane t.d ∷ []

  -- the function is the same at all heights
  abbrev pub IsFlat : (Position → Fraction) → Type 0
  IsFlat f = (t : Tetrahedron Position) → six_by plane first last f t ≡ nought

  -- so it is its own mean along the column
  pub flat_along : (f : Position → Fraction) → IsFlat f → IsMeanAlong f f
  flat_along f flat t = ring_from fraction_ring (six h t ∷ six f t ∷ sum_four h t ∷ sum_four f t ∷ []) ((var 2, var 1, number 0) ∷ []) (given (flat t) none) (var 0 :* var 3 :+ var 1 :* var 2) (var 0 :* var 3) refl

  pub one_flat : IsFlat (λ p. one)
  unfolding six_by six_of
  one_flat t = ring fraction_ring (values t) (six_of unit unit unit unit) (number 0) refl

  pub x_flat : IsFlat (λ p. p.x)
  unfolding six_by six_of
  x_flat t = ring fraction_ring (values t) (six_of (var 1) (var 3) (var 5) (var 7)) (number 0) refl

  pub side_flat : IsFlat (side_distance plane)
  unfolding six_by six_of
  side_flat t = ring fraction_ring (values t) (six_of (var 2) (var 4) (var 6) (var 8)) (number 0) refl

  abbrev half : Fraction
  half = inverse (whole (pos 2))

  halves : half ⊕ half ≡ one
  halves = ring_from fraction_ring (half ∷ whole (pos 2) ∷ []) ((unit, var 1 :* var 0, unit) ∷ (opposite (var 0), var 1, unit :+ unit) ∷ [])
      (given (whole_inverse 2 (omega arith)) (given (whole-add (pos 1) (pos 1) ∙ ap₂ ◌⊕◌ whole-one whole-one) none)) (var 0 :+ var 0) unit refl

  abbrev mid : Position → Fraction
  mid = middle plane first last

  six-middle : (t : Tetrahedron Position) → six mid t ≡ six (height plane) t ⊕ six h t ⊗ half
  unfolding six_by six_of
  six-middle t = ring fraction_ring (one ∷ t.a.x ∷ side_distance plane t.a ∷ t.b.x ∷ side_distance plane t.b ∷ t.c.x ∷ side_distance plane t.c ∷ t.d.x ∷ side_distance plane t.d
      ∷ height plane t.a ∷ height plane t.b ∷ height plane t.c ∷ height plane t.d ∷ h t.a ∷ h t.b ∷ h t.c ∷ h t.d ∷ half ∷ [])
      (six_of (var 9 :+ var 13 :* var 17) (var 10 :+ var 14 :* var 17) (var 11 :+ var 15 :* var 17) (var 12 :+ var 16 :* var 17))
      (six_of (var 9) (var 10) (var 11) (var 12) :+ six_of (var 13) (var 14) (var 15) (var 16) :* var 17) refl

  middle_along : IsMeanAlong (height plane) mid
  middle_along t = ring_from fraction_ring
      (six h t ∷ six mid t ∷ six (height plane) t ∷ height plane t.a ∷ height plane t.b ∷ height plane t.c ∷ height plane t.d ∷ h t.a ∷ h t.b ∷ h t.c ∷ h t.d ∷ half ∷ [])
      ((H, var 1, var 2 :+ var 0 :* var 11) ∷ (H, var 0, opposite (var 2)) ∷ (var 0 :* H, var 11 :+ var 11, unit) ∷ [])
      (given (six-middle t) (given (six_depth plane first last t) (given halves none)))
      (var 0 :* ((var 3 :+ var 7 :* var 11) :+ (var 4 :+ var 8 :* var 11) :+ (var 5 :+ var 9 :* var 11) :+ (var 6 :+ var 10 :* var 11)) :+ var 1 :* H)
      (var 0 :* (var 3 :+ var 4 :+ var 5 :+ var 6)) refl
    where
      H : Expression
      H = var 7 :+ var 8 :+ var 9 :+ var 10

  pub one_linear : IsLinearFunction (λ p. one)
  one_linear t p q = ring fraction_ring (t ∷ []) unit ((unit :- var 0) :* unit :+ var 0 :* unit) refl

  pub middle_linear : IsLinearFunction mid
  middle_linear t p q = ap₂ (λ x y. x ⊕ y ⊗ half) (height_linear plane t p q) (depth_linear plane first last t p q)
      ∙ ring fraction_ring (t ∷ height plane p ∷ height plane q ∷ h p ∷ h q ∷ half ∷ [])
      (((unit :- var 0) :* var 1 :+ var 0 :* var 2) :+ ((unit :- var 0) :* var 3 :+ var 0 :* var 4) :* var 5)
      ((unit :- var 0) :* (var 1 :+ var 3 :* var 5) :+ var 0 :* (var 2 :+ var 4 :* var 5)) refl

  pub are_column_sums : (b : Bool) (t : Tetrahedron Position) → PointOutwards b t → AreColumnSums plane first last (kept_pieces corners t) (faces_turned b t)
  are_column_sums b t out = record {
    volume = column_law (λ p. one) (λ p. one) one_linear (flat_along (λ p. one) one_flat) volume_of volume-term b t out;
    mx = column_law (λ p. p.x) (λ p. p.x) (λ t p q. refl) (flat_along (λ p. p.x) x_flat) (λ p. volume_of p ⊗ mean_of (λ p. p.x) p) (integral-term (λ p. p.x)) b t out;
    mv = column_law (side_distance plane) (side_distance plane) (side_linear plane) (flat_along (side_distance plane) side_flat) (λ p. volume_of p ⊗ mean_of (side_distance plane) p) (integral-term (side_distance plane)) b t out;
    mu = column_law (height plane) mid middle_linear middle_along (λ p. volume_of p ⊗ mean_of (height plane) p) (integral-term (height plane)) b t out;
  }

-- at every waterplane
pub central_law_of_tetrahedra : CentralLawOfTetrahedra
central_law_of_tetrahedra plane first last outwards t out = are_column_sums plane first last outwards t out
