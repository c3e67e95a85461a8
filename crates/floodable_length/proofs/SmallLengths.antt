-- Lengths of a reach are no longer than a ship may be, or a step longer.
use Rattle.std.proofs.Common.{◌≡◌, sym, subst, arith, ℕ, ℤ, pos, ◌+ℤ◌, ◌-ℤ◌, ◌≤ℤ◌, ◌<ℤ◌, List, [], ◌∷◌, Option, Some, None, Result, Ok, Err}
use Rattle.std.proofs.lemmas.Int.{ints}
use Rattle.std.specs.Prelude.{IfSome, IfOk}
use Rattle.hull_model.specs.declared.slab.Slab.{Slab}
use Rattle.hull_model.specs.Body.{IsWithin}
use Rattle.hull_model.specs.Submerged.{first_x, last_x}
use Rattle.damage_box.specs.declared.draft_box.DraftBox.{DraftBox}
use Rattle.floodable_length.specs.declared.reach.Reach.{Reach}
use Rattle.floodable_length.specs.declared.reach.Reason.{Reason}
use Rattle.floodable_length.specs.Lengths.{AreSlabsOf}
use Rattle.floodable_length.specs.LoadedShip.{LoadedShip, IsShip}
use Rattle.floodable_length.specs.Reach.{IsReach, ReachesTo, HasSmallLengths}

module _ (ship : LoadedShip) (is : IsShip ship) (centre : ℤ) (permeability : ℕ) where
  first_within : pos 0 ≤ℤ first_x ship.stations
  first_within = subst (λ n. pos 0 ≤ℤ n) is.faces.first_x ship.faces.ends.first_within.0

  last_within : last_x ship.stations ≤ℤ pos 524287
  last_within = subst (λ n. n ≤ℤ pos 524287) is.faces.last_x ship.faces.ends.last_within.1

  slabs_within : (length : ℤ) (slabs : List Slab) → AreSlabsOf (first_x ship.stations) (last_x ship.stations) centre permeability length slabs → IsWithin (pos 524287) length
  slabs_within length [] e = subst (IsWithin (pos 524287)) (sym e) nothing
    where
      nothing : IsWithin (pos 524287) (pos 0)
      nothing = (omega (arith, ints), omega (arith, ints))
  slabs_within length (slab ∷ []) of = go (first_x ship.stations) (last_x ship.stations) slab.aft slab.fore first_within last_within of.from of.to slab.limits.order of.long
    where
      go : (s e a f : ℤ) → pos 0 ≤ℤ s → e ≤ℤ pos 524287 → s ≤ℤ a → f ≤ℤ e → a <ℤ f → f -ℤ a ≡ length → IsWithin (pos 524287) length
      go s e a f h k l m o p = (omega (arith, ints), omega (arith, ints))
  slabs_within length (slab ∷ other ∷ rest) of = absurd of

  module _ (step : ℤ) (some : pos 2 ≤ℤ step) (most : step ≤ℤ pos 100000) where
    longer : (safe next : ℤ) → IsWithin (pos 524287) safe → next ≡ safe +ℤ step → IsWithin (pos 624287) next
    longer safe next h e = both h.0 h.1
      where
        both : pos 0 ≤ℤ safe → safe ≤ℤ pos 524287 → IsWithin (pos 624287) next
        both k l = (omega (arith, ints), omega (arith, ints))

    both_small : (safe : Option (ℤ × DraftBox)) (next : ℤ × Reason) → ReachesTo ship centre permeability step safe next
        → IfSome safe (λ safe. IsWithin (pos 524287) safe.0) × IsWithin (pos 624287) next.0
    both_small None next is = (tt, subst (IsWithin (pos 624287)) (sym is.0) zero_within)
      where
        zero_within : IsWithin (pos 624287) (pos 0)
        zero_within = (omega (arith, ints), omega (arith, ints))
    both_small (Some safe) next is = (within, longer safe.0 next.0 within is.longer)
      where
        within : IsWithin (pos 524287) safe.0
        within = slabs_within safe.0 is.is_safe.slabs is.is_safe.flooded

    pub small_lengths : (reach : Reach) → IsReach ship centre permeability step reach → HasSmallLengths reach
    small_lengths reach is = record { safe = (both_small reach.safe reach.next is).0; next = (both_small reach.safe reach.next is).1 }

pub each_ok : {A E : Type 0} (P Q : A → Type 0) → ((a : A) → P a → Q a) → (r : Result A E) → IfOk r P → IfOk r Q
each_ok P Q more (Ok a) h = more a h
each_ok P Q more (Err e) h = tt
