-- The mean of a function over the wet part of a triangle: the part where the depth, which is linear over the triangle, is above 0.
use Rattle.std.specs.Prelude.{pos, ℕ, zero, suc}
use Rattle.exact_algebra.proofs.Fraction.{Fraction, nought, one, ◌⊕◌, ◌⊗◌, ◌⊖◌, inverse}
use Rattle.exact_algebra.proofs.Whole.{whole}
use Rattle.hull_model.specs.Fractions.{magnitude, interpolated, sum_over}
use Rattle.hull_model.specs.TriangleCut.{Triangle, triangle, Corners, kept_pieces}

-- a point of a triangle: its coordinates, of which each is 1 at one corner and 0 at the two others, and its depth
pub record Place : Type 0 where
  pub first : Fraction
  pub second : Fraction
  pub third : Fraction
  pub depth : Fraction

-- points on a straight line
abbrev pub places : Corners Place
places = record {
  depth = λ p. p.depth;
  between = λ t p q. record {
    first = interpolated t p.first q.first;
    second = interpolated t p.second q.second;
    third = interpolated t p.third q.third;
    depth = interpolated t p.depth q.depth;
  };
}

-- the whole triangle, with these depths at its corners
abbrev pub with_depths : Fraction → Fraction → Fraction → Triangle Place
with_depths h k l = triangle
    (record { first = one; second = nought; third = nought; depth = h })
    (record { first = nought; second = one; third = nought; depth = k })
    (record { first = nought; second = nought; third = one; depth = l })

-- a triangle's share of the whole, above or below 0 by the turn of the corners
abbrev pub turned_share : Triangle Place → Fraction
turned_share t =
    t.a.first ⊗ (t.b.second ⊗ t.c.third ⊖ t.b.third ⊗ t.c.second)
    ⊖ t.a.second ⊗ (t.b.first ⊗ t.c.third ⊖ t.b.third ⊗ t.c.first)
    ⊕ t.a.third ⊗ (t.b.first ⊗ t.c.second ⊖ t.b.second ⊗ t.c.first)

abbrev pub share_of : Triangle Place → Fraction
share_of t = magnitude (turned_share t)

-- the sum of a function's values at the corners
abbrev pub at_corners : (Place → Fraction) → Triangle Place → Fraction
at_corners f t = f t.a ⊕ f t.b ⊕ f t.c

-- the mean over a triangle of a linear function, and of the product of two, by their values at the corners
abbrev pub linear_mean : (Place → Fraction) → Triangle Place → Fraction
linear_mean f t = at_corners f t ⊗ inverse (whole (pos 3))

abbrev pub product_mean : (Place → Fraction) → (Place → Fraction) → Triangle Place → Fraction
product_mean f g t = (at_corners (λ p. f p ⊗ g p) t ⊕ at_corners f t ⊗ at_corners g t) ⊗ inverse (whole (pos 12))

-- the mean, over the triangle with these depths at its corners, of a function that counts on the wet part alone: the sum over the kept
-- triangles of their share of the whole times the function's mean there
unfoldable pub wet_mean : (Triangle Place → Fraction) → Fraction → Fraction → Fraction → Fraction
wet_mean mean h k l = sum_over (λ t. share_of t ⊗ mean t) (kept_pieces places (with_depths h k l))

-- the coordinate of a corner, counted from 0
abbrev pub coordinate : ℕ → Place → Fraction
coordinate zero p = p.first
coordinate (suc zero) p = p.second
coordinate (suc (suc n)) p = p.third

-- the share of the triangle that is wet
abbrev pub wet_share : Fraction → Fraction → Fraction → Fraction
wet_share = wet_mean (λ t. one)

-- the mean on the wet part of the coordinate of a corner, and of the product of two
abbrev pub wet_corner : ℕ → Fraction → Fraction → Fraction → Fraction
wet_corner n = wet_mean (linear_mean (coordinate n))

abbrev pub wet_pair : ℕ → ℕ → Fraction → Fraction → Fraction → Fraction
wet_pair n m = wet_mean (product_mean (coordinate n) (coordinate m))

-- the mean of the depth where it is above 0, and of that times the coordinate of a corner
abbrev pub wet_depth : Fraction → Fraction → Fraction → Fraction
wet_depth = wet_mean (linear_mean (λ p. p.depth))

abbrev pub weighted_depth : ℕ → Fraction → Fraction → Fraction → Fraction
weighted_depth n = wet_mean (product_mean (coordinate n) (λ p. p.depth))
