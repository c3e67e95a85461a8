-- Heights of top points, and products of levels and distances.
use Rattle.std.proofs.Common.{◌≡◌, ◌≤◌, ◌<◌, ◌^◌, ◌-◌, ℕ, ℤ, pos, ◌+ℤ◌, ◌*ℤ◌, ◌≤ℤ◌, unsigned_abs, mul-le-mul, List, [], ◌∷◌, length, refl, arith, w64}
use Rattle.std.proofs.lemmas.Int.{ints, unsigned_abs-mul}
use Rattle.std.specs.List.{AllByRecursion}
use Rattle.std.specs.Prelude.{get_or}
use native.Mathlib.Numerals.{unary_clauses}
use mir.Val.{SFits}
use Rattle.hull_model.specs.declared.point.Point.{Point}
use Rattle.hull_model.specs.Body.{IsWithin, IsPoint}
use Rattle.hull_model.proofs.Magnitudes.{fits_64}
use Rattle.floodable_length.specs.MarginLine.{top_of}

pub last-is_top : (points : List Point) (other : Point) → 1 ≤ length points → (get_or points (length points - 1) other).z ≡ top_of points
last-is_top [] other some = elim some [ ]
last-is_top (p ∷ []) other some = refl
last-is_top (p ∷ q ∷ rest) other some = simp unary_clauses (simp unary_clauses at (last-is_top (q ∷ rest) other (omega arith)))

pub last-fits : (points : List Point) (other : Point) → 1 ≤ length points → AllByRecursion IsPoint points → SFits w64 (get_or points (length points - 1) other).z
last-fits [] other some all = elim some [ ]
last-fits (p ∷ []) other some all = fits_64 p.z (small p.z all.0.height.0 all.0.height.1)
  where
    small : (z : ℤ) → pos 0 ≤ℤ z → z ≤ℤ pos 65535 → unsigned_abs z < 2 ^ 63
    small z h k = omega (arith, ints)
last-fits (p ∷ q ∷ rest) other some all = simp unary_clauses (simp unary_clauses at (last-fits (q ∷ rest) other (omega arith) all.1))

pub product-small : (level distance : ℤ) → unsigned_abs level ≤ 2 ^ 30 → unsigned_abs distance < 2 ^ 20 → unsigned_abs (level *ℤ distance) ≤ 2 ^ 50
product-small level distance h k = omega (arith, unsigned_abs-mul level distance, mul-le-mul h (least k))
  where
    least : {n : ℕ} → n < 2 ^ 20 → n ≤ 1048576
    least h = omega arith

pub product-fits : (level distance : ℤ) → unsigned_abs level ≤ 2 ^ 30 → unsigned_abs distance < 2 ^ 20 → SFits w64 (level *ℤ distance)
product-fits level distance h k = fits_64 (level *ℤ distance) (below (product-small level distance h k))
  where
    below : {n : ℕ} → n ≤ 2 ^ 50 → n < 2 ^ 63
    below h = omega arith

pub sum-fits : (a b : ℤ) → unsigned_abs a ≤ 2 ^ 50 → unsigned_abs b ≤ 2 ^ 50 → SFits w64 (a +ℤ b)
sum-fits a b h k = fits_64 (a +ℤ b) (omega (arith, ints))

pub place-fits : (x : ℤ) → IsWithin (pos 524287) x → SFits w64 x
place-fits x at = go at.0 at.1
  where
    go : pos 0 ≤ℤ x → x ≤ℤ pos 524287 → SFits w64 x
    go h k = fits_64 x (omega (arith, ints))
