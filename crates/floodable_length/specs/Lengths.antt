-- What a length at a centre floods. Lengths and places are in mm.
use Rattle.std.specs.Prelude.{◌≡◌, ◌⊎◌, ◌≤◌, ℕ, ℤ, pos, ◌+ℤ◌, ◌-ℤ◌, ◌≤ℤ◌, ◌<ℤ◌, List, [], ◌∷◌}
use Rattle.hull_model.specs.declared.slab.Slab.{Slab}
use Rattle.hull_model.specs.Body.{IsWithin}
use Rattle.hull_polyhedron.specs.Between.{AreEnds}

abbrev pub twice : ℤ → ℤ
twice z = z +ℤ z

module _ (first last centre : ℤ) where
  -- from half a length before the centre to half of it behind, the ship is between its first and its last station
  pub record IsWithinEnds (half : ℤ) : Type 0 where
    pub aft : first ≤ℤ (centre -ℤ half)
    pub fore : (centre +ℤ half) ≤ℤ last

  -- a length above 0, with the centre in its middle, reaches past the first station or past the last
  pub record IsPastEnd (length : ℤ) : Type 0 where
    pub some : pos 0 <ℤ length
    pub past : (twice (centre -ℤ first) <ℤ length) ⊎ (twice (last -ℤ centre) <ℤ length)

  module _ (permeability : ℕ) where
    -- a slab of this length with the centre in its middle, which reaches past neither
    pub record IsSlabOf (length : ℤ) (slab : Slab) : Type 0 where
      pub middle : slab.aft +ℤ slab.fore ≡ twice centre
      pub long : slab.fore -ℤ slab.aft ≡ length
      pub share : slab.permeability ≡ permeability
      pub from : first ≤ℤ slab.aft
      pub to : slab.fore ≤ℤ last

    -- what a length floods: its slab, and nothing where it is 0
    abbrev pub AreSlabsOf : ℤ → List Slab → Type 0
    AreSlabsOf length [] = length ≡ pos 0
    AreSlabsOf length (slab ∷ []) = IsSlabOf length slab
    AreSlabsOf length (slab ∷ next ∷ rest) = ⊥

-- ends of a ship, a centre, half of a step and a permeability within their limits
pub record AreLengths (first last centre half_step : ℤ) (permeability : ℕ) : Type 0 where
  pub ends : AreEnds first last
  pub middle : IsWithin (pos 524287) centre
  pub some : pos 1 ≤ℤ half_step
  pub most : half_step ≤ℤ pos 50000
  pub share : permeability ≤ 1000
