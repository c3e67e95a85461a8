-- The levels of a box at a place between the stations.
use Rattle.std.proofs.Common.{ℕ, ℤ, pos, ◌≡◌, sym, ◌∙◌, ap, ◌+ℤ◌, ◌-ℤ◌, ◌*ℤ◌, ◌<◌, ◌<ℤ◌, ◌≤ℤ◌, unsigned_abs, arith}
use Rattle.std.proofs.lemmas.Int.{ints}
use Rattle.exact_algebra.proofs.Fraction.{Fraction, ◌⊕◌, fractions, ◌≼◌}
use Rattle.exact_algebra.proofs.Order as Order
use Rattle.exact_algebra.proofs.Span.{ContainsFraction, in_units}
use Rattle.exact_algebra.proofs.Whole.{whole}
use Rattle.hull_model.specs.Waterplane.{Waterplane, level_at}
use Rattle.outward_interval.specs.Widths.{units, IsNarrow, IsNear}
use Rattle.flux_moments.specs.Planes.{IsIn, AreLevelEnds}
use Rattle.flux_moments.specs.declared.box_levels.ShipLength.{ShipLength}
use Rattle.flux_moments.specs.declared.plane_box.PlaneBox.{PlaneBox}
use Rattle.flux_moments.proofs.Levels.{before_within, behind_within, length_some, length_same, level_encloses, level_above, level_below, same_least}
use Rattle.plane_clip.specs.Enclosure.{in_unit}
use Rattle.flux_moments.proofs.MeanWidths.{in_unit-in}
use Rattle.flux_moments.proofs.BoxWidths.{level-narrow, level-near}

module _ (planes : PlaneBox) (way : ShipLength) (x lo hi : ℤ) (from : way.first ≤ℤ x) (to : x ≤ℤ way.last) where
  abbrev length : ℕ
  length = unsigned_abs (way.last -ℤ way.first)

  before : pos 0 ≤ℤ (way.last -ℤ x)
  before = (before_within way.first way.last x way.start way.end from to).0

  behind : pos 0 ≤ℤ (x -ℤ way.first)
  behind = (behind_within way.first way.last x way.start way.end from to).0

  some : 0 < length
  some = length_some way.first way.last way.forwards

  same : pos length ≡ way.last -ℤ way.first
  same = length_same way.first way.last way.forwards

  pub same_ends : planes.a1 ≡ planes.f1 → planes.a2 ≡ planes.f2 → (lo ≡ planes.a1 *ℤ pos 1024) × (hi ≡ planes.a2 *ℤ pos 1024) → AreLevelEnds planes
      way.first way.last x lo hi
  same_ends aft fore units = same_least way.first way.last x length some same planes.a1 planes.a2 planes.f1 planes.f2 lo hi aft fore units.0 units.1

  -- what follows from the ends of the levels
  module _ (ends : AreLevelEnds planes way.first way.last x lo hi) where
    pub level_contained : (plane : Waterplane) → IsIn planes plane → ContainsFraction 20 lo hi (level_at plane way.first way.last (whole x))
    level_contained plane is = level_encloses plane way.first way.last x length some same planes.a1 planes.a2 planes.f1 planes.f2 lo hi before behind is.aft
        is.fore ends

    pub level_narrow : (d : Fraction) → IsNarrow 10 d planes.a1 planes.a2 → IsNarrow 10 d planes.f1 planes.f2 → IsNarrow 20 (d ⊕ units 20 2) lo hi
    level_narrow = level-narrow way.first way.last x length some same before behind planes.a1 planes.a2 planes.f1 planes.f2 lo hi ends

    pub level_near : (l : Fraction) → IsNear 10 l planes.a1 planes.a2 → IsNear 10 l planes.f1 planes.f2 → IsNear 20 (l ⊕ units 20 1) lo hi
    level_near = level-near way.first way.last x length some same before behind planes.a1 planes.a2 planes.f1 planes.f2 lo hi ends

    -- at the least levels of the box the level is less than a unit above the lower end, and so at the greatest
    pub least_level : (plane : Waterplane) → plane.a ≡ in_unit 10 planes.a1 → plane.f ≡ in_unit 10 planes.f1 → in_units 20 (level_at plane way.first way.last (whole x)) ≼ whole (lo +ℤ pos 1)
    least_level plane e f = level_below plane way.first way.last x length some same planes.a1 planes.f1 (lo +ℤ pos 1) before behind
        (Order.≼_same fractions (ap (in_units 10) e ∙ in_unit-in 10 planes.a1)) (Order.≼_same fractions (ap (in_units 10) f ∙ in_unit-in 10 planes.f1)) (weak ends.low.next)
      where
        weak : {m n : ℤ} → m <ℤ n → m ≤ℤ n
        weak {m} {n} h = omega (arith, ints, h)

    pub greatest_level : (plane : Waterplane) → plane.a ≡ in_unit 10 planes.a2 → plane.f ≡ in_unit 10 planes.f2 → whole (hi -ℤ pos 1) ≼ in_units 20 (level_at plane way.first way.last (whole x))
    greatest_level plane e f = level_above plane way.first way.last x length some same planes.a2 planes.f2 (hi -ℤ pos 1) before behind
        (Order.≼_same fractions (sym (ap (in_units 10) e ∙ in_unit-in 10 planes.a2))) (Order.≼_same fractions (sym (ap (in_units 10) f ∙ in_unit-in 10 planes.f2))) (weak ends.high.before)
      where
        weak : {m n : ℤ} → m <ℤ n → m ≤ℤ n
        weak {m} {n} h = omega (arith, ints, h)
