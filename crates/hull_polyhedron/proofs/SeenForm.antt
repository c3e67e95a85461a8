-- What is seen of a face's wet part, and so a column, is a twenty-fourth of the closed form times the area seen; it is alternating.
use Prim.Native.Nat.{ℕ, ◌<◌}
use mathlib.Core.Path.{◌≡◌, refl, sym, ◌∙◌, ap, ap₂}
use mathlib.Core.List.{List, [], ◌∷◌}
use mathlib.Core.Bool.{Bool, true, false}
use lib.IntN.{ℤ, pos}
use native.Mathlib.Omega.{arith}
use Rattle.std.specs.Prelude.{map}
use Rattle.exact_algebra.specs.Expression.{Expression, var, unit, number, ◌:+◌, ◌:-◌, ◌:*◌, opposite}
use Rattle.exact_algebra.proofs.Ring.{ring, ring_from, none, given}
use Rattle.exact_algebra.proofs.Fraction.{Fraction, nought, one, ◌⊕◌, ◌⊗◌, negative, inverse, fractions, fraction_ring}
use Rattle.exact_algebra.proofs.Whole.{whole, whole-mul, positive-whole}
use Rattle.exact_algebra.proofs.Order as Order
use Rattle.exact_algebra.proofs.Bounds as Bounds
use Rattle.exact_algebra.proofs.WetForm as Form
use Rattle.hull_model.specs.Fractions.{sum_over}
use Rattle.hull_model.specs.TriangleCut.{Triangle, triangle}
use Rattle.hull_model.specs.TetrahedronCut.{Tetrahedron}
use Rattle.hull_model.specs.SignedFaces.{turned, faces_in_order}
use Rattle.hull_model.specs.Waterplane.{Waterplane, Position, side_distance}
use Rattle.hull_model.specs.WetMean.{Place, product_mean, wet_mean}
use Rattle.hull_model.proofs.WetSum.{IsLinearOn, N12, wet_mean-form}
use Rattle.hull_model.proofs.TriangleLaws.{by_twelve, product-twelfth, depth_at}
use Rattle.hull_model.proofs.MeanKinds.{first_place, second_place, third_place}
use Rattle.hull_model.proofs.TriangleLaws as Means
use Rattle.hull_polyhedron.specs.Columns.{depth, by_corners, seen_area, column, column_sum, seen_part, seen_sum}
use Rattle.hull_polyhedron.specs.CentralLaw.{faces_turned}
use Rattle.hull_polyhedron.proofs.Flux.{Vertex, form, area, flux, fluxes, ar}
use Rattle.hull_polyhedron.proofs.Placed.{area_of, vertex, flow}
use Rattle.hull_polyhedron.proofs.Determinants.{with_sign}

abbrev pub N24 : Fraction
N24 = whole (pos 24)

pub whole_inverse : (n : ℕ) → 0 < n → whole (pos n) ⊗ inverse (whole (pos n)) ≡ one
whole_inverse n h = Bounds.mul-inverse_positive fractions (positive-whole n h)

pub cancel_24 : {x y : Fraction} → x ⊗ N24 ≡ y ⊗ N24 → x ≡ y
cancel_24 e = Order.mul_cancel fractions (Order.not_nought fractions (positive-whole 24 (omega arith))) e

-- ---- the mean of the product of two linear functions by their values at the corners
pub by_corners-linear : (u v w : Fraction) → IsLinearOn (by_corners u v w)
by_corners-linear u v w t p q = ring fraction_ring (t ∷ u ∷ v ∷ w ∷ p.first ∷ p.second ∷ p.third ∷ q.first ∷ q.second ∷ q.third ∷ [])
    ((between (var 4) (var 7) :* var 1 :+ between (var 5) (var 8) :* var 2) :+ between (var 6) (var 9) :* var 3)
    (between ((var 4 :* var 1 :+ var 5 :* var 2) :+ var 6 :* var 3) ((var 7 :* var 1 :+ var 8 :* var 2) :+ var 9 :* var 3)) refl
  where
    between : Expression → Expression → Expression
    between x y = (unit :- var 0) :* x :+ var 0 :* y

pub by_corners-first : (u v w : Fraction) → (one ⊗ u ⊕ nought ⊗ v) ⊕ nought ⊗ w ≡ u
by_corners-first u v w = ring fraction_ring (u ∷ v ∷ w ∷ []) ((unit :* var 0 :+ number 0 :* var 1) :+ number 0 :* var 2) (var 0) refl

pub by_corners-second : (u v w : Fraction) → (nought ⊗ u ⊕ one ⊗ v) ⊕ nought ⊗ w ≡ v
by_corners-second u v w = ring fraction_ring (u ∷ v ∷ w ∷ []) ((number 0 :* var 0 :+ unit :* var 1) :+ number 0 :* var 2) (var 1) refl

pub by_corners-third : (u v w : Fraction) → (nought ⊗ u ⊕ nought ⊗ v) ⊕ one ⊗ w ≡ w
by_corners-third u v w = ring fraction_ring (u ∷ v ∷ w ∷ []) ((number 0 :* var 0 :+ number 0 :* var 1) :+ unit :* var 2) (var 2) refl

pub mean-form : (u v w : Fraction) (G : Place → Fraction) → IsLinearOn G → (h k l : Fraction)
    → wet_mean (product_mean (by_corners u v w) G) h k l ⊗ N12 ≡ form (h, u, G (first_place h)) (k, v, G (second_place k)) (l, w, G (third_place l))
mean-form u v w G G_linear h k l = wet_mean-form (product_mean F G) F G (by_corners-linear u v w) G_linear (product-twelfth F G) h k l
    ∙ (λ i. form (h, by_corners-first u v w i, G (first_place h)) (k, by_corners-second u v w i, G (second_place k)) (l, by_corners-third u v w i, G (third_place l)))
  where
    F : Place → Fraction
    F = by_corners u v w

pub mean_of_two-form : (u v w u' v' w' h k l : Fraction) → wet_mean (product_mean (by_corners u v w) (by_corners u' v' w')) h k l ⊗ N12 ≡ form (h, u, u') (k, v, v') (l, w, w')
mean_of_two-form u v w u' v' w' h k l = mean-form u v w (by_corners u' v' w') (by_corners-linear u' v' w') h k l
    ∙ (λ i. form (h, u, by_corners-first u' v' w' i) (k, v, by_corners-second u' v' w' i) (l, w, by_corners-third u' v' w' i))

-- ---- the order of the corners of a triangle's closed form
flux-swap : (p q r : Vertex) → flux q p r ≡ negative (flux p q r)
unfolding area
flux-swap p q r = ring_from fraction_ring (p.x ∷ p.v ∷ q.x ∷ q.v ∷ r.x ∷ r.v ∷ form q.at p.at r.at ∷ form p.at q.at r.at ∷ [])
    ((ar (var 2, var 3) (var 0, var 1) (var 4, var 5), var 6, var 7) ∷ []) (given (Form.swap fractions q.at p.at r.at) none)
    (ar (var 2, var 3) (var 0, var 1) (var 4, var 5) :* var 6) (opposite (ar (var 0, var 1) (var 2, var 3) (var 4, var 5) :* var 7)) refl

flux-roll : (p q r : Vertex) → flux q r p ≡ flux p q r
unfolding area
flux-roll p q r = ring_from fraction_ring (p.x ∷ p.v ∷ q.x ∷ q.v ∷ r.x ∷ r.v ∷ form q.at r.at p.at ∷ form p.at q.at r.at ∷ [])
    ((ar (var 2, var 3) (var 4, var 5) (var 0, var 1), var 6, var 7) ∷ []) (given (sym (Form.roll fractions p.at q.at r.at)) none)
    (ar (var 2, var 3) (var 4, var 5) (var 0, var 1) :* var 6) (ar (var 0, var 1) (var 2, var 3) (var 4, var 5) :* var 7) refl

module _ (plane : Waterplane) where
  seen-area : (t : Triangle Position) → seen_area plane t ≡ area_of plane t.a t.b t.c
  unfolding seen_area side_distance
  seen-area t = ring fraction_ring
      (whole (pos plane.c) ∷ whole (pos plane.s) ∷ inverse (whole (pos plane.r)) ∷ t.a.x ∷ t.a.y ∷ t.a.z ∷ t.b.x ∷ t.b.y ∷ t.b.z ∷ t.c.x ∷ t.c.y ∷ t.c.z ∷ [])
      (opposite (var 1 :* ((var 8 :- var 5) :* (var 9 :- var 3) :- (var 6 :- var 3) :* (var 11 :- var 5)) :+ var 0 :* ((var 6 :- var 3) :* (var 10 :- var 4) :- (var 7 :- var 4) :* (var 9 :- var 3))) :* var 2)
      ((var 6 :- var 3) :* (side 10 11 :- side 4 5) :- (var 9 :- var 3) :* (side 7 8 :- side 4 5)) refl
    where
      side : ℕ → ℕ → Expression
      side y z = (var 1 :* var z :- var 0 :* var y) :* var 2

  module _ (first last : ℤ) (f g : Position → Fraction) where
    abbrev h : Position → Fraction
    h = depth plane first last

    abbrev at : Position → Vertex
    at p = vertex plane first last f g p

    abbrev flux_of : Triangle Position → Fraction
    flux_of t = flux (at t.a) (at t.b) (at t.c)

    pub seen-form : (t : Triangle Position) → seen_part plane first last f g t ⊗ N24 ≡ flux_of t
    unfolding seen_part area
    seen-form t = ring_from fraction_ring
        (seen_area plane t ∷ inverse (whole (pos 2)) ∷ wet ∷ N24 ∷ whole (pos 2) ∷ N12 ∷ form (at t.a).at (at t.b).at (at t.c).at ∷ area_of plane t.a t.b t.c ∷ [])
        ((var 0 :* var 1 :* var 2, var 3, var 4 :* var 5) ∷ (var 0 :* var 2 :* var 5, var 4 :* var 1, unit) ∷ (var 0, var 2 :* var 5, var 6) ∷ (var 6, var 0, var 7) ∷ [])
        (given (whole-mul (pos 2) (pos 12)) (given (whole_inverse 2 (omega arith)) (given (mean_of_two-form (f t.a) (f t.b) (f t.c) (g t.a) (g t.b) (g t.c) (h t.a) (h t.b) (h t.c)) (given (seen-area t) none))))
        (((var 0 :* var 1) :* var 2) :* var 3) (var 7 :* var 6) refl
      where
        wet : Fraction
        wet = wet_mean (product_mean (by_corners (f t.a) (f t.b) (f t.c)) (by_corners (g t.a) (g t.b) (g t.c))) (h t.a) (h t.b) (h t.c)

    -- two corners change places, and another corner comes first
    pub seen-turned : (t : Triangle Position) → seen_part plane first last f g (turned t) ≡ negative (seen_part plane first last f g t)
    seen-turned t = cancel_24 (ring_from fraction_ring (seen_part plane first last f g (turned t) ∷ seen_part plane first last f g t ∷ N24 ∷ flux_of (turned t) ∷ flux_of t ∷ [])
        ((unit, var 0 :* var 2, var 3) ∷ (unit, var 3, opposite (var 4)) ∷ (unit, var 1 :* var 2, var 4) ∷ [])
        (given (seen-form (turned t)) (given (flux-swap (at t.a) (at t.b) (at t.c)) (given (seen-form t) none)))
        (var 0 :* var 2) (opposite (var 1) :* var 2) refl)

    pub seen-rotated : (t : Triangle Position) → seen_part plane first last f g (triangle t.b t.c t.a) ≡ seen_part plane first last f g t
    seen-rotated t = cancel_24 (seen-form (triangle t.b t.c t.a) ∙ flux-roll (at t.a) (at t.b) (at t.c) ∙ sym (seen-form t))

    seen-swap_last : (a b c : Position) → seen_part plane first last f g (triangle a c b) ≡ negative (seen_part plane first last f g (triangle a b c))
    seen-swap_last a b c = seen-turned (triangle c a b) ∙ ap negative (sym (seen-rotated (triangle c a b)))

    sum-turned : (faces : List (Triangle Position)) → seen_sum plane first last f g (map turned faces) ≡ negative (seen_sum plane first last f g faces)
    unfolding sum_over
    sum-turned [] = ring fraction_ring [] (number 0) (opposite (number 0)) refl
    sum-turned (t ∷ faces) = ap₂ ◌⊕◌ (seen-turned t) (sum-turned faces)
        ∙ ring fraction_ring (seen_part plane first last f g t ∷ seen_sum plane first last f g faces ∷ []) (opposite (var 0) :+ opposite (var 1)) (opposite (var 0 :+ var 1)) refl

    -- the faces of a tetrahedron
    faces-flow : (t : Tetrahedron Position) → seen_sum plane first last f g (faces_in_order t) ⊗ N24 ≡ flow plane first last f g t
    unfolding sum_over flow fluxes
    faces-flow t = ring_from fraction_ring
        (C (triangle t.b t.c t.d) ∷ C (triangle t.a t.d t.c) ∷ C (triangle t.a t.c t.d) ∷ C (triangle t.a t.b t.d) ∷ C (triangle t.a t.c t.b) ∷ C (triangle t.a t.b t.c) ∷ N24
        ∷ flux_of (triangle t.b t.c t.d) ∷ flux_of (triangle t.a t.c t.d) ∷ flux_of (triangle t.a t.b t.d) ∷ flux_of (triangle t.a t.b t.c) ∷ [])
        ((unit, var 0 :* var 6, var 7) ∷ (opposite unit, var 2 :* var 6, var 8) ∷ (unit, var 3 :* var 6, var 9) ∷ (opposite unit, var 5 :* var 6, var 10) ∷ (var 6, var 1, opposite (var 2)) ∷ (var 6, var 4, opposite (var 5)) ∷ [])
        (given (seen-form (triangle t.b t.c t.d)) (given (seen-form (triangle t.a t.c t.d)) (given (seen-form (triangle t.a t.b t.d)) (given (seen-form (triangle t.a t.b t.c))
        (given (seen-swap_last t.a t.c t.d) (given (seen-swap_last t.a t.b t.c) none))))))
        ((var 0 :+ (var 1 :+ (var 3 :+ (var 4 :+ number 0)))) :* var 6) (var 7 :- var 8 :+ var 9 :- var 10) refl
      where
        C : Triangle Position → Fraction
        C u = seen_part plane first last f g u

    pub turned-flow : (b : Bool) (t : Tetrahedron Position) → seen_sum plane first last f g (faces_turned b t) ⊗ N24 ≡ with_sign b (flow plane first last f g t)
    turned-flow true t = faces-flow t
    turned-flow false t = ring_from fraction_ring (seen_sum plane first last f g (map turned (faces_in_order t)) ∷ seen_sum plane first last f g (faces_in_order t) ∷ N24 ∷ flow plane first last f g t ∷ [])
        ((var 2, var 0, opposite (var 1)) ∷ (opposite unit, var 1 :* var 2, var 3) ∷ []) (given (sum-turned (faces_in_order t)) (given (faces-flow t) none)) (var 0 :* var 2) (opposite (var 3)) refl

  -- ---- columns
  module _ (first last : ℤ) (f : Position → Fraction) where
    column-seen : (t : Triangle Position) → column plane first last f t ≡ seen_part plane first last f (depth plane first last) t
    unfolding column seen_part
    column-seen t = ap (λ m. seen_area plane t ⊗ inverse (whole (pos 2)) ⊗ m)
        (by_twelve _ _ (mean-form (f t.a) (f t.b) (f t.c) depth_at Means.depth_linear h k l ∙ sym (mean_of_two-form (f t.a) (f t.b) (f t.c) h k l h k l)))
      where
        h : Fraction
        h = depth plane first last t.a

        k : Fraction
        k = depth plane first last t.b

        l : Fraction
        l = depth plane first last t.c

    pub column_sum-seen : (faces : List (Triangle Position)) → column_sum plane first last f faces ≡ seen_sum plane first last f (depth plane first last) faces
    column_sum-seen faces = λ i. sum_over (λ t. column-seen t i) faces
