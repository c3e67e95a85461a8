-- Corners from which the search for a box of levels may start: on each of sixteen slopes a plane below which about enough is left.
use Rattle.std.specs.Prelude.{◌≡◌, ◌⊎◌, ℕ, ◌<◌, ◌*◌, ◌^◌, ℤ, pos, ◌+ℤ◌, ◌-ℤ◌, ◌*ℤ◌, ◌≤ℤ◌, ◌<ℤ◌, List, get_or}
use Rattle.exact_algebra.proofs.Fraction.{Fraction, ◌⊕◌, ◌≼◌, ◌≺◌}
use Rattle.exact_algebra.proofs.Span.{ContainsFraction}
use Rattle.hull_model.specs.declared.station.Station.{Station}
use Rattle.hull_model.specs.declared.water.Water.{Water}
use Rattle.outward_interval.specs.Widths.{IsNarrow}
use Rattle.flux_moments.specs.declared.plane_box.PlaneBox.{PlaneBox}
use Rattle.compartment_loss.specs.declared.flooded_hull.FloodedHull.{FloodedHull}
use Rattle.loading_sheet.specs.declared.loading.Loading.{Loading}
use Rattle.loading_sheet.specs.Centre.{displaced}
use Rattle.damage_box.specs.declared.reading.Corner.{Corner}
use Rattle.damage_box.specs.declared.tip.Tip.{Tip}
use Rattle.damage_box.specs.declared.tip.Tip.TheVariants.{Fore, Aft}
use Rattle.compartment_loss.specs.Upright.{IsUprightBox}
use Rattle.damage_box.specs.Residuals.{volume_at, last_at, first_at, volume_width, residual_width}

-- the slopes are 2^j mm for j from 4 to 19; half of the slope of each number, in grid units
abbrev pub half_of : ℕ → ℤ
half_of k = pos (8192 * 2 ^ k)

-- c is the element of number k
abbrev pub IsAt : List Corner → ℕ → Corner → Type 0
IsAt tried k c = get_or tried k c ≡ c

-- the levels at the first and at the last station of the plane of a slope with the level m in its middle
abbrev pub first_level : Tip → (half m : ℤ) → ℤ
first_level Fore half m = m -ℤ half
first_level Aft half m = m +ℤ half

abbrev pub last_level : Tip → (half m : ℤ) → ℤ
last_level Fore half m = m +ℤ half
last_level Aft half m = m -ℤ half

-- the residuals about the last station and about the first are enclosed on their sides of 0
abbrev pub Qualifies : Tip → Corner → Type 0
Qualifies Fore c = (c.r1.hi <ℤ pos 0) × (pos 0 <ℤ c.r2.lo)
Qualifies Aft c = (pos 0 <ℤ c.r1.lo) × (c.r2.hi <ℤ pos 0)

module _ (flood : FloodedHull) (loading : Loading) (water : Water) (stations : List Station) where
  -- the span from lo to hi contains a quantity at the plane of these levels, and is no wider than the bound there
  pub record EnclosesAt (a f lo hi : ℤ) (quantity : Fraction) (width : FloodedHull → PlaneBox → Fraction) : Type 0 where
    pub contains : ContainsFraction 20 lo hi quantity
    pub narrow : (planes : PlaneBox) → IsUprightBox a f planes → IsNarrow 20 (width flood planes) lo hi

  -- enough is left below the plane, and not enough but for the width of an enclosure
  abbrev pub IsEnough : (a f : ℤ) → Type 0
  IsEnough a f = displaced loading water ≼ volume_at stations flood.slabs.items a f

  abbrev pub IsShort : (a f : ℤ) → Type 0
  IsShort a f = (planes : PlaneBox) → IsUprightBox a f planes → volume_at stations flood.slabs.items a f ≺ displaced loading water ⊕ volume_width flood planes

  -- m is the first level of its range that is found to be enough: it is enough, or the last one; the level below isn't, or m is the first
  pub record IsCandidate (tip : Tip) (half m : ℤ) : Type 0 where
    pub from : ((pos 1024 *ℤ flood.faces.now.low_z) -ℤ half) ≤ℤ m
    pub to : m ≤ℤ ((pos 1024 *ℤ flood.faces.now.high_z) +ℤ half)
    pub enough : (m ≡ (pos 1024 *ℤ flood.faces.now.high_z) +ℤ half) ⊎ IsEnough (first_level tip half m) (last_level tip half m)
    pub lower : (m ≡ (pos 1024 *ℤ flood.faces.now.low_z) -ℤ half) ⊎ IsShort (first_level tip half (m -ℤ pos 1)) (last_level tip half (m -ℤ pos 1))

  -- a corner at the candidate's levels, with both residuals there
  pub record IsTried (tip : Tip) (half : ℤ) (c : Corner) : Type 0 where
    pub level : ℤ
    pub a : c.a ≡ first_level tip half level
    pub f : c.f ≡ last_level tip half level
    pub candidate : IsCandidate tip half level
    pub r1 : EnclosesAt c.a c.f c.r1.lo c.r1.hi (last_at loading water stations flood.slabs.items c.a c.f) residual_width
    pub r2 : EnclosesAt c.a c.f c.r2.lo c.r2.hi (first_at loading water stations flood.slabs.items c.a c.f) residual_width

  -- one of the sixteen qualifies
  pub record HasStart (tip : Tip) : Type 0 where
    pub number : ℕ
    pub few : number < 16
    pub corner : Corner
    pub tried : IsTried tip (half_of number) corner
    pub qualifies : Qualifies tip corner
