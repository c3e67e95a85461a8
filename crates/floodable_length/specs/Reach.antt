-- How long the ship may flood at a centre.
use Rattle.std.specs.Prelude.{◌≡◌, ℕ, ℤ, pos, ◌+ℤ◌, ◌*ℤ◌, Option, Some, None, IfSome, List}
use Rattle.hull_model.specs.declared.slab.Slab.{Slab}
use Rattle.hull_model.specs.Body.{IsWithin}
use Rattle.hull_model.specs.Submerged.{first_x, last_x}
use Rattle.damage_box.specs.declared.draft_box.DraftBox.{DraftBox}
use Rattle.floodable_length.specs.declared.reach.Reach.{Reach}
use Rattle.floodable_length.specs.declared.reach.Reason.{Reason}
use Rattle.floodable_length.specs.declared.reach.Reason.TheVariants.{EndOfShip, Sinks, NoStart, Over, Touch}
use Rattle.floodable_length.specs.Lengths.{AreSlabsOf, IsPastEnd}
use Rattle.floodable_length.specs.Settled.{IsDry, IsCause}
use Rattle.floodable_length.specs.LoadedShip.{LoadedShip}

module _ (ship : LoadedShip) (centre : ℤ) (permeability : ℕ) where
  -- what a length floods at the centre: nothing past the first station or the last
  abbrev pub IsFloodedBy : ℤ → List Slab → Type 0
  IsFloodedBy length slabs = AreSlabsOf (first_x ship.stations) (last_x ship.stations) centre permeability length slabs

  -- a length is safe, with the box in which the ship then settles
  pub record IsSafe (length : ℤ) (box : DraftBox) : Type 0 where
    pub slabs : List Slab
    pub flooded : IsFloodedBy length slabs
    pub dry : IsDry ship slabs box

  -- a length isn't safe although it doesn't reach past an end
  pub record HasCause (length : ℤ) (reason : Reason) : Type 0 where
    pub slabs : List Slab
    pub flooded : IsFloodedBy length slabs
    pub cause : IsCause ship slabs reason

  -- the reason why a length isn't safe: the first that holds
  abbrev pub IsReason : ℤ → Reason → Type 0
  IsReason length EndOfShip = IsPastEnd (first_x ship.stations) (last_x ship.stations) centre length
  IsReason length Sinks = HasCause length Sinks
  IsReason length NoStart = HasCause length NoStart
  IsReason length (Over station at) = HasCause length (Over station at)
  IsReason length (Touch station at) = HasCause length (Touch station at)

  module _ (step : ℤ) where
    -- a multiple of the step that is safe, as nothing flooded is, and the length one step longer, which isn't
    pub record IsLongest (safe : ℤ × DraftBox) (next : ℤ × Reason) : Type 0 where
      pub intact : DraftBox
      pub start : IsSafe (pos 0) intact
      pub steps : ℕ
      pub multiple : safe.0 ≡ pos steps *ℤ step
      pub is_safe : IsSafe safe.0 safe.1
      pub longer : next.0 ≡ safe.0 +ℤ step
      pub reason : IsReason next.0 next.1

    abbrev pub ReachesTo : Option (ℤ × DraftBox) → ℤ × Reason → Type 0
    ReachesTo None next = (next.0 ≡ pos 0) × IsReason (pos 0) next.1
    ReachesTo (Some safe) next = IsLongest safe next

    abbrev pub IsReach : Reach → Type 0
    IsReach reach = ReachesTo reach.safe reach.next

-- lengths in mm: a safe one is no longer than a ship may be, and the next one is no more than a step longer
pub record HasSmallLengths (reach : Reach) : Type 0 where
  pub safe : IfSome reach.safe (λ safe. IsWithin (pos 524287) safe.0)
  pub next : IsWithin (pos 624287) reach.next.0
