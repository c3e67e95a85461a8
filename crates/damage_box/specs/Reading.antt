-- What a reading says.
use Rattle.std.specs.Prelude.{◌≡◌, ℕ, List, ◌<◌, ℤ, pos, ◌+ℤ◌, ◌-ℤ◌, ◌≤ℤ◌, ◌<ℤ◌}
use Rattle.exact_algebra.proofs.Fraction.{Fraction, ◌≼◌, ◌≺◌}
use Rattle.exact_algebra.proofs.Whole.{whole}
use Rattle.exact_algebra.proofs.Span.{ContainsFraction, in_units}
use Rattle.outward_interval.specs.Widths.{IsNarrow}
use Rattle.damage_box.specs.declared.reading.Reading.{Reading}
use Rattle.damage_box.specs.declared.reading.Corner.{Corner}
use Rattle.hull_model.specs.declared.station.Station.{Station}
use Rattle.flux_moments.specs.declared.plane_box.PlaneBox.{PlaneBox}
use Rattle.compartment_loss.specs.declared.flooded_hull.FloodedHull.{FloodedHull}
use Rattle.damage_box.specs.Residuals.{volume_width, residual_width}
use Rattle.damage_box.specs.Candidates.{half_of, IsAt}
use Rattle.damage_box.specs.Balance.{Balance, OfHulls, OfBoxes, IsHalf, IsCandidate}

-- the span from lo to hi contains q, and is no wider than the bound at the one plane
pub record Encloses (b : Balance) (a f lo hi : ℤ) (q : List Station → Fraction) (bound : FloodedHull → PlaneBox → Fraction) : Type 0 where
  pub contains : OfHulls b (λ s. ContainsFraction 20 lo hi (q s))
  pub narrow : OfBoxes b a f (λ planes. IsNarrow 20 (bound b.flood planes) lo hi)

pub record IsReading (b : Balance) (a f : ℤ) (r : Reading) : Type 0 where
  pub volume : Encloses b a f r.volume.lo r.volume.hi (λ s. b.volume s a f) volume_width
  pub from_last : Encloses b a f r.from_last.lo r.from_last.hi (λ s. b.from_last s a f) residual_width
  pub from_first : Encloses b a f r.from_first.lo r.from_first.hi (λ s. b.from_first s a f) residual_width

-- up is the need in units of 2^-20, rounded up
pub record IsNeed (need : Fraction) (up : ℤ) : Type 0 where
  pub reached : (z : ℤ) → up ≤ℤ z → in_units 20 need ≼ whole z
  pub missed : (z : ℤ) → z <ℤ up → whole z ≺ in_units 20 need

-- a corner that was tried: the candidate's, with its residuals enclosed
pub record IsTried (b : Balance) (half : ℤ) (c : Corner) : Type 0 where
  pub level : ℤ
  pub a : c.a ≡ level -ℤ half
  pub f : c.f ≡ level +ℤ half
  pub candidate : IsCandidate b half level
  pub r1 : Encloses b c.a c.f c.r1.lo c.r1.hi (λ s. b.from_last s c.a c.f) residual_width
  pub r2 : Encloses b c.a c.f c.r2.lo c.r2.hi (λ s. b.from_first s c.a c.f) residual_width

-- both residuals are enclosed on their sides of 0
pub record Qualifies (c : Corner) : Type 0 where
  pub last : c.r1.hi <ℤ pos 0
  pub first : pos 0 <ℤ c.r2.lo

-- a candidate that qualifies
pub record IsStart (b : Balance) (c : Corner) : Type 0 where
  pub number : ℕ
  pub few : number < 16
  pub half : ℤ
  pub is_half : IsHalf half
  pub is_slope : half ≡ half_of number
  pub tried : IsTried b half c
  pub qualifies : Qualifies c

-- the candidate of each of the first so many slopes, of which none qualifies
pub record AreTried (b : Balance) (tried : List Corner) (count : ℕ) : Type 0 where
  pub all : (k : ℕ) → k < count → (c : Corner) → IsAt tried k c → IsTried b (half_of k) c
  pub none : (k : ℕ) → k < count → (c : Corner) → IsAt tried k c → ¬ Qualifies c

-- the volume of the whole hull is enclosed below the need
pub record IsSinking (b : Balance) (lo hi : ℤ) : Type 0 where
  pub encloses : Encloses b b.high b.high lo hi (λ s. b.volume s b.high b.high) volume_width
  pub below : whole hi ≺ in_units 20 b.need

-- there is an enclosure of it that isn't below the need
pub record IsAfloat (b : Balance) : Type 0 where
  pub lo : ℤ
  pub hi : ℤ
  pub encloses : Encloses b b.high b.high lo hi (λ s. b.volume s b.high b.high) volume_width
  pub not_below : in_units 20 b.need ≼ whole hi

-- a candidate qualified
pub record HasStart (b : Balance) : Type 0 where
  pub corner : Corner
  pub start : IsStart b corner
