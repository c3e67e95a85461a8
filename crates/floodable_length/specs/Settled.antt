-- What comes of slabs that flood: a box of levels that leaves the margin line dry, or a reason why there is none.
use Rattle.std.specs.Prelude.{◌≡◌, ℕ, Option, Some, None, List}
use Rattle.hull_model.specs.declared.slab.Slab.{Slab}
use Rattle.outward_interval.specs.declared.span.Span.{Span}
use Rattle.compartment_loss.specs.declared.flooded_hull.FloodedHull.{FloodedHull}
use Rattle.damage_box.specs.declared.draft_box.DraftBox.{DraftBox}
use Rattle.damage_box.specs.declared.reading.Corner.{Corner}
use Rattle.damage_box.specs.declared.tip.Tip.{Tip}
use Rattle.damage_box.specs.SharpDamageBox.{IsSharpDamageBox, IsSunk, HasNoStart}
use Rattle.floodable_length.specs.declared.reach.Reason.{Reason}
use Rattle.floodable_length.specs.declared.reach.Reason.TheVariants.{EndOfShip, Sinks, NoStart, Over, Touch}
use Rattle.floodable_length.specs.declared.weighing.Weighed.{Weighed}
use Rattle.floodable_length.specs.declared.weighing.Weighed.TheVariants.{Safe, Unsafe}
use Rattle.floodable_length.specs.MarginLine.{first_under}
use Rattle.floodable_length.specs.LoadedShip.{LoadedShip}

module _ (ship : LoadedShip) where
  -- the number of the first station where the margin line is under the least levels of a box, and under the greatest
  abbrev pub first_over : DraftBox → Option ℕ
  first_over box = first_under ship.margin ship.stations box.a1 box.f1

  abbrev pub first_touched : DraftBox → Option ℕ
  first_touched box = first_under ship.margin ship.stations box.a2 box.f2

  module _ (slabs : List Slab) where
    -- the hull with the slabs flooded
    pub record IsFlooded (flood : FloodedHull) : Type 0 where
      pub hull : flood.faces.now ≡ ship.faces
      pub parts : flood.slabs.items ≡ slabs

    -- what is left of the whole hull is enclosed below what the load displaces
    pub record DoesSink : Type 0 where
      pub flood : FloodedHull
      pub flooded : IsFlooded flood
      pub left : Span 20
      pub sunk : IsSunk flood ship.loading ship.water ship.stations left

    -- no corner qualifies from which the search for a box may start
    pub record HasNoCorner : Type 0 where
      pub flood : FloodedHull
      pub flooded : IsFlooded flood
      pub tip : Tip
      pub tried : List Corner
      pub no_start : HasNoStart flood ship.loading ship.water ship.stations tip tried

    -- the ship settles in a box that can't be shrunk
    pub record SettlesIn (box : DraftBox) : Type 0 where
      pub flood : FloodedHull
      pub flooded : IsFlooded flood
      pub sharp : IsSharpDamageBox flood ship.loading ship.water ship.stations box

    -- there the margin line is dry at the greatest levels
    pub record IsDry (box : DraftBox) : Type 0 where
      pub settles : SettlesIn box
      pub dry : first_touched box ≡ None

    -- it is under at the least levels, at this station first
    pub record IsOver (station : ℕ) (box : DraftBox) : Type 0 where
      pub settles : SettlesIn box
      pub under : first_over box ≡ Some station

    -- it isn't, but it is under at the greatest levels, at this station first
    pub record IsTouched (station : ℕ) (box : DraftBox) : Type 0 where
      pub settles : SettlesIn box
      pub dry : first_over box ≡ None
      pub under : first_touched box ≡ Some station

    -- the reason why the ship isn't safe, other than that the slabs reach past an end
    abbrev pub IsCause : Reason → Type 0
    IsCause EndOfShip = ⊥
    IsCause Sinks = DoesSink
    IsCause NoStart = HasNoCorner
    IsCause (Over station at) = IsOver station at
    IsCause (Touch station at) = IsTouched station at

    abbrev pub IsWeighed : Weighed → Type 0
    IsWeighed (Safe box) = IsDry box
    IsWeighed (Unsafe reason) = IsCause reason
