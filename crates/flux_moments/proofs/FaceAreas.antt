-- How large the area of a face may be as it is seen from above, and how far its corners lie.
use Rattle.std.proofs.Common.{ℕ, pos, ◌≡◌, ◌*◌, ◌^◌, ◌<◌, ◌≤◌, ℤ, neg_ℤ, ◌+ℤ◌, ◌-ℤ◌, unsigned_abs, get_or, arith}
use Rattle.std.proofs.lemmas.Int.{ints}
use Rattle.exact_fraction.specs.Bounds.{MagnitudeBelow}
use Rattle.hull_model.specs.declared.face.Face.{Face}
use Rattle.hull_model.specs.Faces.{IsFace, origin}
use Rattle.plane_clip.proofs.FaceSizes.{corner_is_node}

-- ---- the ends of the factor
pub sum_within : (x y p q : ℤ) → MagnitudeBelow 36 p → MagnitudeBelow 37 q → unsigned_abs x ≤ 2 ^ 40 * unsigned_abs p → unsigned_abs y ≤ 2 ^ 40 *
    unsigned_abs q → unsigned_abs (x +ℤ y) < 3 * 2 ^ 76
sum_within x y p q h k i j = omega (arith, ints, h, k, i, j)

pub opposite_below : {x y z : ℤ} → x ≡ neg_ℤ y → y ≡ z → unsigned_abs z < 3 * 2 ^ 76 → unsigned_abs x < 3 * 2 ^ 76
opposite_below e f h = omega (arith, ints, e, f, h)

-- ---- the area with the other sign
pub turned_area : (z : ℤ) → pos 0 -ℤ z ≡ neg_ℤ z
turned_area z = omega (arith, ints)

pub turned_below : (z : ℤ) → MagnitudeBelow 37 z → MagnitudeBelow 37 (pos 0 -ℤ z)
turned_below z h = omega (arith, ints, h)

-- ---- how far the corners of a face lie
pub corner_x : (f : Face) → IsFace f → (i : ℕ) → MagnitudeBelow 19 (get_or f.p i origin).x
corner_x f is i = omega (arith, ints, (corner_is_node f.p i is.corners).place.0, (corner_is_node f.p i is.corners).place.1)

pub corner_y : (f : Face) → IsFace f → (i : ℕ) → MagnitudeBelow 19 (get_or f.p i origin).y
corner_y f is i = omega (arith, ints, (corner_is_node f.p i is.corners).port, (corner_is_node f.p i is.corners).starboard)
