-- Rational waterplanes: a direction and two levels; the height, the side and the depth of a position.
use mathlib.Core.Path.{refl}
use native.Mathlib.Nat.{zero-lt-suc}
use Rattle.std.specs.Prelude.{◌≡◌, ℕ, ◌+◌, ◌*◌, ◌<◌, ℤ, pos}
use Rattle.exact_algebra.proofs.Fraction.{Fraction, ◌⊕◌, ◌⊗◌, ◌⊖◌, inverse}
use Rattle.exact_algebra.proofs.Whole.{whole}
use Rattle.hull_model.specs.declared.node.Node.{Node}
use Rattle.hull_model.specs.Fractions.{interpolated}
use Rattle.hull_model.specs.TriangleCut.{Corners}

-- a direction of whole numbers c, s and r with c² + s² = r², and the levels a at the first station and f at the last
pub record Waterplane : Type 0 where
  pub c : ℕ
  pub s : ℕ
  pub r : ℕ
  pub round : c * c + s * s ≡ r * r
  pub positive : 0 < r
  pub a : Fraction
  pub f : Fraction

-- upright, and the same level everywhere
abbrev pub upright : Fraction → Waterplane
upright level = record { c = 1; s = 0; r = 1; round = refl; positive = zero-lt-suc 0; a = level; f = level }

-- a point in space by fractions of a mm
pub record Position : Type 0 where
  pub x : Fraction
  pub y : Fraction
  pub z : Fraction

abbrev pub position_of : Node → Position
position_of n = record { x = whole n.x; y = whole n.y; z = whole n.z }

module _ (plane : Waterplane) where
  open plane use {c, s, r, a, f}

  -- the height above the plane through the base line, square to the direction
  unfoldable pub height : Position → Fraction
  height p = (whole (pos c) ⊗ p.z ⊕ whole (pos s) ⊗ p.y) ⊗ inverse (whole (pos r))

  -- the distance from the centreplane towards the low side, square to the height
  unfoldable pub side_distance : Position → Fraction
  side_distance p = (whole (pos s) ⊗ p.z ⊖ whole (pos c) ⊗ p.y) ⊗ inverse (whole (pos r))

  module _ (first last : ℤ) where
    -- how far x is on the way from the first station to the last
    abbrev pub part_of_length : Fraction → Fraction
    part_of_length x = (x ⊖ whole first) ⊗ inverse (whole last ⊖ whole first)

    -- the level at x
    unfoldable pub level_at : Fraction → Fraction
    level_at x = interpolated (part_of_length x) a f

    -- the depths of positions, and the positions on a straight line
    abbrev pub under : Corners Position
    under = record {
      depth = λ p. level_at p.x ⊖ height p;
      between = λ t p q. record { x = interpolated t p.x q.x; y = interpolated t p.y q.y; z = interpolated t p.z q.z };
    }
