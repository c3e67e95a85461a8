-- Rational directions, and the level planes of a direction: those with the same level everywhere.
use Rattle.std.specs.Prelude.{◌≡◌, ℕ, ◌+◌, ◌*◌, ◌<◌}
use Rattle.exact_algebra.proofs.Fraction.{Fraction}
use Rattle.hull_model.specs.Waterplane.{Waterplane}

-- the cosine c / r and the sine s / r of a heel from upright to 90 degrees
pub record Direction : Type 0 where
  pub c : ℕ
  pub s : ℕ
  pub r : ℕ
  pub round : c * c + s * s ≡ r * r
  pub positive : 0 < r

-- its plane of this level, in mm
abbrev pub level_plane : Direction → Fraction → Waterplane
level_plane d at = record { c = d.c; s = d.s; r = d.r; round = d.round; positive = d.positive; a = at; f = at }
