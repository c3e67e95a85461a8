-- A gap between lengths in which the longest safe one is sought.
use Rattle.std.specs.Prelude.{◌≡◌, ℕ, ℤ, pos, ◌*ℤ◌, ◌≤ℤ◌, ◌<ℤ◌}
use Rattle.hull_model.specs.Submerged.{first_x, last_x}
use Rattle.damage_box.specs.declared.draft_box.DraftBox.{DraftBox}
use Rattle.floodable_length.specs.declared.gap.Gap.{Gap}
use Rattle.floodable_length.specs.declared.lengths.Lengths.{Lengths}
use Rattle.floodable_length.specs.declared.weighing.Weighed.{Weighed}
use Rattle.floodable_length.specs.declared.weighing.Weighed.TheVariants.{Safe, Unsafe}
use Rattle.floodable_length.specs.Lengths.{twice, IsWithinEnds}
use Rattle.floodable_length.specs.LoadedShip.{LoadedShip}
use Rattle.floodable_length.specs.Reach.{IsSafe, IsReason}

-- the ends are those of the ship
pub record IsAlong (ship : LoadedShip) (lengths : Lengths) : Type 0 where
  pub first : lengths.first ≡ first_x ship.stations
  pub last : lengths.last ≡ last_x ship.stations

-- what was found at a length
abbrev pub IsFound : LoadedShip → ℤ → ℕ → ℤ → Weighed → Type 0
IsFound ship centre permeability length (Safe at) = IsSafe ship centre permeability length at
IsFound ship centre permeability length (Unsafe reason) = IsReason ship centre permeability length reason

module _ (ship : LoadedShip) (centre : ℤ) (permeability : ℕ) (half_step : ℤ) where
  -- the lower number of steps is safe, as is length 0; the upper one isn't; and all below the upper one lie within the ship
  pub record IsGap (gap : Gap) : Type 0 where
    pub from : pos 0 ≤ℤ gap.safe
    pub order : gap.safe <ℤ gap.next
    pub most : gap.next ≤ℤ pos 524288
    pub intact : DraftBox
    pub start : IsSafe ship centre permeability (pos 0) intact
    pub is_safe : IsSafe ship centre permeability (gap.safe *ℤ twice half_step) gap.at
    pub is_unsafe : IsReason ship centre permeability (gap.next *ℤ twice half_step) gap.reason
    pub within : (steps : ℤ) → pos 1 ≤ℤ steps → steps <ℤ gap.next → IsWithinEnds (first_x ship.stations) (last_x ship.stations) centre (steps *ℤ half_step)
