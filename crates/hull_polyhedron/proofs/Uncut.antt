-- Six times the volume of the uncut hull, over fractions.
use Rattle.std.proofs.Common.{zero, suc, ◌≡◌, refl, sym, ◌∙◌, ap, ap₂, List, [], ◌∷◌, map, ℤ, pos, negsuc, ◌+ℤ◌, ◌-ℤ◌, ◌*ℤ◌, unsigned_abs, arith}
use Rattle.exact_algebra.specs.Expression.{var, unit, number, ◌:+◌, ◌:-◌, ◌:*◌, opposite}
use Rattle.exact_algebra.specs.OrderedField.{Sign}
use Rattle.exact_algebra.proofs.Ring.{ring, ring_from, none, given}
use Rattle.exact_algebra.proofs.Bounds as Bounds
use Rattle.exact_algebra.proofs.Fraction.{Fraction, ◌⊕◌, ◌⊗◌, ◌⊖◌, inverse, sign_of, fractions, fraction_ring}
use Rattle.exact_algebra.proofs.Whole.{whole, whole-nought, whole-add, whole-sub, whole-mul, whole-negative, sign-whole, positive-whole}
use Rattle.hull_model.specs.declared.node.Node.{Node}
use Rattle.hull_model.specs.declared.vector.Vector.{Vector}
use Rattle.hull_model.specs.Fractions.{magnitude_by, magnitude, sum_over}
use Rattle.hull_model.specs.Vectors.{way, cross, dot}
use Rattle.hull_model.specs.TetrahedronCut.{Tetrahedron, with_corners}
use Rattle.hull_model.specs.Tetrahedra.{turned_six, six_times}
use Rattle.hull_model.specs.Waterplane.{position_of}
use Rattle.hull_model.specs.Submerged.{determinant, volume_of}
use Rattle.hull_model.specs.Boundary.{sum_of}

pub whole_minor : (a b c d : ℤ) → whole ((a *ℤ b) -ℤ (c *ℤ d)) ≡ whole a ⊗ whole b ⊖ whole c ⊗ whole d
whole_minor a b c d = whole-sub (a *ℤ b) (c *ℤ d) ∙ ap₂ (λ x y. x ⊖ y) (whole-mul a b) (whole-mul c d)

whole_dot : (u v : Vector) → whole (dot u v) ≡ (whole u.x ⊗ whole v.x ⊕ whole u.y ⊗ whole v.y) ⊕ whole u.z ⊗ whole v.z
whole_dot u v = whole-add ((u.x *ℤ v.x) +ℤ (u.y *ℤ v.y)) (u.z *ℤ v.z)
    ∙ ap₂ ◌⊕◌ (whole-add (u.x *ℤ v.x) (u.y *ℤ v.y) ∙ ap₂ ◌⊕◌ (whole-mul u.x v.x) (whole-mul u.y v.y)) (whole-mul u.z v.z)

det : (ux uy uz vx vy vz wx wy wz : Fraction) → Fraction
det ux uy uz vx vy vz wx wy wz = ux ⊗ (vy ⊗ wz ⊖ vz ⊗ wy) ⊕ uy ⊗ (vz ⊗ wx ⊖ vx ⊗ wz) ⊕ uz ⊗ (vx ⊗ wy ⊖ vy ⊗ wx)

whole_det : (u v w : Vector) → det (whole u.x) (whole u.y) (whole u.z) (whole v.x) (whole v.y) (whole v.z) (whole w.x) (whole w.y) (whole w.z) ≡ whole (dot (cross u v) w)
unfolding det
whole_det u v w = ring_from fraction_ring
    (whole u.x ∷ whole u.y ∷ whole u.z ∷ whole v.x ∷ whole v.y ∷ whole v.z ∷ whole w.x ∷ whole w.y ∷ whole w.z
    ∷ whole (cross u v).x ∷ whole (cross u v).y ∷ whole (cross u v).z ∷ whole (dot (cross u v) w) ∷ [])
    ((opposite unit, var 12, (var 9 :* var 6 :+ var 10 :* var 7) :+ var 11 :* var 8)
    ∷ (opposite (var 6), var 9, var 1 :* var 5 :- var 2 :* var 4) ∷ (opposite (var 7), var 10, var 2 :* var 3 :- var 0 :* var 5) ∷ (opposite (var 8), var 11, var 0 :* var 4 :- var 1 :* var 3) ∷ [])
    (given (whole_dot (cross u v) w) (given (whole_minor u.y v.z u.z v.y) (given (whole_minor u.z v.x u.x v.z) (given (whole_minor u.x v.y u.y v.x) none))))
    ((var 0 :* (var 4 :* var 8 :- var 5 :* var 7) :+ var 1 :* (var 5 :* var 6 :- var 3 :* var 8)) :+ var 2 :* (var 3 :* var 7 :- var 4 :* var 6))
    (var 12) refl

-- the determinant of whole corners
pub whole_determinant : (t : Tetrahedron Node) → determinant (with_corners position_of t) ≡ whole (turned_six t)
unfolding determinant det
whole_determinant t = (λ i. det
    (sym (whole-sub t.b.x t.a.x) i) (sym (whole-sub t.b.y t.a.y) i) (sym (whole-sub t.b.z t.a.z) i)
    (sym (whole-sub t.c.x t.a.x) i) (sym (whole-sub t.c.y t.a.y) i) (sym (whole-sub t.c.z t.a.z) i)
    (sym (whole-sub t.d.x t.a.x) i) (sym (whole-sub t.d.y t.a.y) i) (sym (whole-sub t.d.z t.a.z) i))
    ∙ whole_det (way t.a t.b) (way t.a t.c) (way t.a t.d)

magnitude_whole : (n : ℤ) → magnitude (whole n) ≡ whole (pos (unsigned_abs n))
unfolding magnitude
magnitude_whole n = ap (λ (s : Sign). magnitude_by s (whole n)) (sign-whole n) ∙ go n
  where
    go : (n : ℤ) → magnitude_by (sign_of n) (whole n) ≡ whole (pos (unsigned_abs n))
    go (pos zero) = refl
    go (pos (suc n)) = refl
    go (negsuc n) = sym (whole-negative (negsuc n))

pub six_volumes : (t : Tetrahedron Node) → whole (pos 6) ⊗ volume_of (with_corners position_of t) ≡ whole (pos (six_times t))
six_volumes t = ring_from fraction_ring (whole (pos 6) ∷ inverse (whole (pos 6)) ∷ magnitude (determinant (with_corners position_of t)) ∷ whole (pos (six_times t)) ∷ [])
    ((var 2, var 0 :* var 1, unit) ∷ (unit, var 2, var 3) ∷ [])
    (given (Bounds.mul-inverse_positive fractions (positive-whole 6 (omega arith))) (given (ap magnitude (whole_determinant t) ∙ magnitude_whole (turned_six t)) none))
    (var 0 :* (var 2 :* var 1)) (var 3) refl

-- six times the volume of tetrahedra with nothing cut
pub uncut_volume : (ts : List (Tetrahedron Node)) → whole (sum_of (λ t. pos (six_times t)) ts) ≡ whole (pos 6) ⊗ sum_over volume_of (map (with_corners position_of) ts)
unfolding sum_over
uncut_volume [] = whole-nought ∙ ring fraction_ring (whole (pos 6) ∷ []) (number 0) (var 0 :* number 0) refl
uncut_volume (t ∷ ts) = whole-add (pos (six_times t)) (sum_of (λ t. pos (six_times t)) ts) ∙ ap₂ ◌⊕◌ (sym (six_volumes t)) (uncut_volume ts)
    ∙ ring fraction_ring (whole (pos 6) ∷ volume_of (with_corners position_of t) ∷ sum_over volume_of (map (with_corners position_of) ts) ∷ []) (var 0 :* var 1 :+ var 0 :* var 2) (var 0 :* (var 1 :+ var 2)) refl
