-- The three signs differ, which closes the impossible cases of a proof by signs.
-- A fact that gives one sign for another is turned by `sym` where it stands the other way.
use mathlib.Core.Path.{◌≡◌}
use Rattle.exact_algebra.specs.OrderedField.{below, level, above}

pub level-ne-above : level ≡ above → ⊥
level-ne-above h = cc

pub level-ne-below : level ≡ below → ⊥
level-ne-below h = cc

pub above-ne-below : above ≡ below → ⊥
above-ne-below h = cc
