-- Gaps that are narrowed, and what one of a single step says.
use Rattle.std.proofs.Common.{◌≡◌, sym, subst, ap, ◌∙◌, refl, arith, ℕ, ℤ, pos, ◌+ℤ◌, ◌-ℤ◌, ◌*ℤ◌, ◌≤ℤ◌, ◌<ℤ◌, unsigned_abs, [], ◌∷◌}
use Rattle.std.proofs.lemmas.Int.{ints}
use Rattle.std.proofs.Math.IntN.{zero-*ℤ}
use Rattle.std.specs.Int.Signed.{≤ℤ_refl}
use Rattle.exact_algebra.specs.Expression.{var, unit, ◌:+◌, ◌:*◌}
use Rattle.exact_algebra.proofs.Ring.{ring}
use Rattle.exact_algebra.proofs.WholeNumbers.{integers}
use Rattle.hull_model.specs.declared.slab.Slab.{Slab}
use Rattle.hull_model.specs.Submerged.{first_x, last_x}
use Rattle.damage_box.specs.declared.draft_box.DraftBox.{DraftBox}
use Rattle.floodable_length.specs.declared.gap.Gap.{Gap}
use Rattle.floodable_length.specs.declared.lengths.Lengths.{Lengths}
use Rattle.floodable_length.specs.declared.reach.Reason.{Reason}
use Rattle.floodable_length.specs.declared.reach.Reason.TheVariants.{EndOfShip, Sinks, NoStart, Over, Touch}
use Rattle.floodable_length.specs.declared.weighing.Weighed.{Weighed}
use Rattle.floodable_length.specs.declared.weighing.Weighed.TheVariants.{Safe, Unsafe}
use Rattle.floodable_length.specs.Gap.{IsAlong, IsFound, IsGap}
use Rattle.floodable_length.specs.Lengths.{twice, IsWithinEnds, IsPastEnd, IsSlabOf}
use Rattle.floodable_length.specs.LoadedShip.{LoadedShip}
use Rattle.floodable_length.specs.Reach.{IsFloodedBy, IsSafe, HasCause, IsReason, IsLongest}
use Rattle.floodable_length.specs.Settled.{IsDry, IsCause, IsWeighed}

-- ---- one slab
module _ (ship : LoadedShip) (lengths : Lengths) (along : IsAlong ship lengths) (length : ℤ) (slab : Slab)
    (of : IsSlabOf lengths.first lengths.last lengths.centre lengths.permeability length slab) where
  flooded : IsFloodedBy ship lengths.centre lengths.permeability length (slab ∷ [])
  flooded = subst (λ n. IsSlabOf n (last_x ship.stations) lengths.centre lengths.permeability length slab) along.first
      (subst (λ n. IsSlabOf lengths.first n lengths.centre lengths.permeability length slab) along.last of)

  safe_at : (at : DraftBox) → IsDry ship (slab ∷ []) at → IsSafe ship lengths.centre lengths.permeability length at
  safe_at at dry = record { slabs = slab ∷ []; flooded = flooded; dry = dry }

  has_cause : (reason : Reason) → IsCause ship (slab ∷ []) reason → HasCause ship lengths.centre lengths.permeability length reason
  has_cause reason cause = record { slabs = slab ∷ []; flooded = flooded; cause = cause }

  reason_at : (reason : Reason) → IsCause ship (slab ∷ []) reason → IsReason ship lengths.centre lengths.permeability length reason
  reason_at EndOfShip cause = absurd cause
  reason_at Sinks cause = has_cause Sinks cause
  reason_at NoStart cause = has_cause NoStart cause
  reason_at (Over station at) cause = has_cause (Over station at) cause
  reason_at (Touch station at) cause = has_cause (Touch station at) cause

  pub found_at : (found : Weighed) → IsWeighed ship (slab ∷ []) found → IsFound ship lengths.centre lengths.permeability length found
  found_at (Safe at) dry = safe_at at dry
  found_at (Unsafe reason) cause = reason_at reason cause

pub within_along : (ship : LoadedShip) (lengths : Lengths) → IsAlong ship lengths → (half : ℤ) → IsWithinEnds (first_x ship.stations) (last_x ship.stations) lengths.centre half
    → IsWithinEnds lengths.first lengths.last lengths.centre half
within_along ship lengths along half within = subst (λ n. IsWithinEnds n lengths.last lengths.centre half) (sym along.first)
    (subst (λ n. IsWithinEnds (first_x ship.stations) n lengths.centre half) (sym along.last) within)

pub between : {low middle : ℤ} → pos 0 ≤ℤ low → low <ℤ middle → pos 1 ≤ℤ middle
between h k = omega (arith, ints)

-- ---- numbers of steps
pub one_above : {low high : ℤ} → pos 0 ≤ℤ low → high ≡ low +ℤ pos 1 → pos 0 ≤ℤ high
one_above h e = omega (arith, ints)

pub one_below : {low high : ℤ} → high ≤ℤ pos 524288 → high ≡ low +ℤ pos 1 → low ≤ℤ pos 524288
one_below h e = omega (arith, ints)

pub double : {length : ℤ} (n half_step : ℤ) → length ≡ n *ℤ (pos 2 *ℤ half_step) → length ≡ n *ℤ twice half_step
double n half_step e = e ∙ ap (λ step. n *ℤ step) (once_more half_step)
  where
    once_more : (half : ℤ) → pos 2 *ℤ half ≡ twice half
    once_more half = omega (arith, ints)

one_more : (n step : ℤ) → (n +ℤ pos 1) *ℤ step ≡ (n *ℤ step) +ℤ step
one_more n step = ring integers (n ∷ step ∷ []) ((var 0 :+ unit) :* var 1) (var 0 :* var 1 :+ var 1) refl

natural : (n : ℤ) → pos 0 ≤ℤ n → n ≡ pos (unsigned_abs n)
natural n h = omega (arith, ints)

-- ---- a gap of one step
module _ (ship : LoadedShip) (lengths : Lengths) (gap : Gap) (is : IsGap ship lengths.centre lengths.permeability lengths.half_step gap) (narrow : gap.next ≡ gap.safe +ℤ pos 1) where
  pub longest_of : (safe next : ℤ) → safe ≡ gap.safe *ℤ twice lengths.half_step → next ≡ gap.next *ℤ twice lengths.half_step
      → IsLongest ship lengths.centre lengths.permeability (twice lengths.half_step) (safe, gap.at) (next, gap.reason)
  longest_of safe next of_safe of_next = record {
    intact = is.intact;
    start = is.start;
    steps = unsigned_abs gap.safe;
    multiple = of_safe ∙ ap (λ n. n *ℤ twice lengths.half_step) (natural gap.safe is.from);
    is_safe = subst (λ n. IsSafe ship lengths.centre lengths.permeability n gap.at) (sym of_safe) is.is_safe;
    longer = of_next ∙ ap (λ n. n *ℤ twice lengths.half_step) narrow ∙ one_more gap.safe (twice lengths.half_step) ∙ ap (λ n. n +ℤ twice lengths.half_step) (sym of_safe);
    reason = subst (λ n. IsReason ship lengths.centre lengths.permeability n gap.reason) (sym of_next) is.is_unsafe;
  }

-- ---- the part of a gap above or below a number of steps
module _ (ship : LoadedShip) (centre half_step : ℤ) (permeability : ℕ) (gap after : Gap) (is : IsGap ship centre permeability half_step gap) (middle : ℤ) where
  abbrev pub length : ℤ
  length = middle *ℤ twice half_step

  later : pos 0 ≤ℤ gap.safe → gap.safe <ℤ middle → pos 0 ≤ℤ middle
  later h k = omega (arith, ints, h, k)

  earlier : middle <ℤ gap.next → gap.next ≤ℤ pos 524288 → middle ≤ℤ pos 524288
  earlier h k = omega (arith, ints, h, k)

  pub part_above : (at : DraftBox) → after.safe ≡ middle → after.at ≡ at → after.next ≡ gap.next → after.reason ≡ gap.reason → gap.safe <ℤ middle → middle <ℤ gap.next → IsSafe ship centre permeability length at
      → IsGap ship centre permeability half_step after
  part_above at safe box next reason above below found = record {
    from = rw safe (later is.from above);
    order = rw (safe, next) below;
    most = rw next is.most;
    intact = is.intact;
    start = is.start;
    is_safe = rw (safe, box) found;
    is_unsafe = rw (next, reason) is.is_unsafe;
    within = λ n some few. is.within n some (subst (λ m. n <ℤ m) next few);
  }

  pub part_below : (reason : Reason) → after.safe ≡ gap.safe → after.at ≡ gap.at → after.next ≡ middle → after.reason ≡ reason → gap.safe <ℤ middle → middle <ℤ gap.next → IsReason ship centre permeability length reason
      → IsGap ship centre permeability half_step after
  part_below because safe box next reason above below found = record {
    from = rw safe is.from;
    order = rw (safe, next) above;
    most = rw next (earlier below is.most);
    intact = is.intact;
    start = is.start;
    is_safe = rw (safe, box) is.is_safe;
    is_unsafe = rw (next, reason) found;
    within = λ n some few. is.within n some (further n (subst (λ m. n <ℤ m) next few));
  }
    where
      further : (n : ℤ) → n <ℤ middle → n <ℤ gap.next
      further n h = omega (arith, ints, h, below)

-- ---- the gap to begin with
pub first_gap : (ship : LoadedShip) (lengths : Lengths) → IsAlong ship lengths → (intact : DraftBox) → IsSafe ship lengths.centre lengths.permeability (pos 0) intact
    → (past : ℤ) → pos 1 ≤ℤ past → past ≤ℤ pos 524288 → IsPastEnd lengths.first lengths.last lengths.centre (past *ℤ twice lengths.half_step)
    → ((steps : ℤ) → pos 1 ≤ℤ steps → steps <ℤ past → IsWithinEnds lengths.first lengths.last lengths.centre (steps *ℤ lengths.half_step))
    → IsGap ship lengths.centre lengths.permeability lengths.half_step (record { safe = pos 0; at = intact; next = past; reason = EndOfShip })
first_gap ship lengths along intact start past some most is_past within = record {
  from = ≤ℤ_refl (pos 0);
  order = from_one some;
  most = most;
  intact = intact;
  start = start;
  is_safe = subst (λ n. IsSafe ship lengths.centre lengths.permeability n intact) (sym (zero-*ℤ (twice lengths.half_step))) start;
  is_unsafe = subst (λ n. IsPastEnd n (last_x ship.stations) lengths.centre length) along.first (subst (λ n. IsPastEnd lengths.first n lengths.centre length) along.last is_past);
  within = λ n one few. subst (λ m. IsWithinEnds m (last_x ship.stations) lengths.centre (n *ℤ lengths.half_step)) along.first
      (subst (λ m. IsWithinEnds lengths.first m lengths.centre (n *ℤ lengths.half_step)) along.last (within n one few));
}
  where
    length : ℤ
    length = past *ℤ twice lengths.half_step

    from_one : {n : ℤ} → pos 1 ≤ℤ n → pos 0 <ℤ n
    from_one h = omega (arith, ints, h)

pub next_is : (safe next : ℤ) → safe <ℤ next → (next -ℤ safe) ≤ℤ pos 1 → next ≡ safe +ℤ pos 1
next_is safe next h k = omega (arith, ints, h, k)
