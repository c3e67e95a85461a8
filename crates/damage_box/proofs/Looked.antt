-- What a reading says at its levels.
use Rattle.std.proofs.Common.{ℤ, pos, ◌≤ℤ◌, ◌<ℤ◌}
use Rattle.damage_box.specs.Balance.{Balance, IsLastKept, IsLastPassed, IsFirstKept, IsFirstPassed, IsEnough, IsShort}
use Rattle.damage_box.specs.Reading.{IsReading, IsNeed}
use Rattle.damage_box.specs.declared.reading.Reading.{Reading}
use Rattle.damage_box.proofs.Signs as Signs

module _ {b : Balance} {a f : ℤ} {r : Reading} (n : IsReading b a f r) where
  pub last_kept : r.from_last.hi ≤ℤ pos 0 → IsLastKept b a f
  last_kept h = record { is = λ s i. Signs.at_most_nought (n.from_last.contains s i) h }

  pub last_passed : pos 0 <ℤ r.from_last.hi → IsLastPassed b a f
  last_passed h = record { is = λ s i planes k. Signs.above_bound (n.from_last.contains s i) (n.from_last.narrow planes k) h }

  pub first_kept : pos 0 ≤ℤ r.from_first.lo → IsFirstKept b a f
  first_kept h = record { is = λ s i. Signs.at_least_nought (n.from_first.contains s i) h }

  pub first_passed : r.from_first.lo <ℤ pos 0 → IsFirstPassed b a f
  first_passed h = record { is = λ s i planes k. Signs.below_bound (n.from_first.contains s i) (n.from_first.narrow planes k) h }

  pub enough : {up : ℤ} → IsNeed b.need up → up ≤ℤ r.volume.lo → IsEnough b a f
  enough u h = record { is = λ s i. Signs.enough u (n.volume.contains s i) h }

  pub short : {up : ℤ} → IsNeed b.need up → r.volume.lo <ℤ up → IsShort b a f
  short u h = record { is = λ s i planes k. Signs.short u (n.volume.contains s i) (n.volume.narrow planes k) h }
