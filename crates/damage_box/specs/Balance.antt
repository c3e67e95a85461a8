-- What floats on a plane that needn't be level: exact residuals and the volume by the grid levels at the first and the last station.
use Rattle.std.specs.Prelude.{◌≡◌, ◌⊎◌, ◌^◌, ℤ, pos, neg_ℤ, ◌+ℤ◌, ◌-ℤ◌, ◌≤ℤ◌, ◌<ℤ◌, List}
use Rattle.exact_algebra.proofs.Fraction.{Fraction, nought, ◌⊕◌, negative, ◌≼◌, ◌≺◌}
use Rattle.hull_model.specs.declared.station.Station.{Station}
use Rattle.flux_moments.specs.declared.plane_box.PlaneBox.{PlaneBox}
use Rattle.compartment_loss.specs.declared.flooded_hull.FloodedHull.{FloodedHull}
use Rattle.compartment_loss.specs.Upright.{IsUprightBox}
use Rattle.damage_box.specs.Residuals.{IsHullOf, volume_width, residual_width}

-- a flooded hull that is seen from one of its ends, by the levels a at the nearer and f at the farther one, in grid units: the residuals
-- about the farther end and about the nearer one, the volume and what it has to be, for each list of stations that the hull is made of;
-- the levels at the first station and at the last; the least and the greatest height of the hull as grid levels
pub record Balance : Type 0 where
  pub flood : FloodedHull
  pub from_last : List Station → ℤ → ℤ → Fraction
  pub from_first : List Station → ℤ → ℤ → Fraction
  pub volume : List Station → ℤ → ℤ → Fraction
  pub need : Fraction
  pub first : ℤ → ℤ → ℤ
  pub last : ℤ → ℤ → ℤ
  pub low : ℤ
  pub high : ℤ

-- the same ship seen from its other end: the levels change their places, and so do the residuals
abbrev pub mirrored : Balance → Balance
mirrored b = record {
  flood = b.flood;
  from_last = λ s a f. b.from_first s f a;
  from_first = λ s a f. b.from_last s f a;
  volume = λ s a f. b.volume s f a;
  need = b.need;
  first = λ a f. b.first f a;
  last = λ a f. b.last f a;
  low = b.low;
  high = b.high;
}

-- what holds of every list of stations that the hull is made of, and of every box of the one plane
abbrev pub OfHulls : Balance → (List Station → Type 0) → Type 0
OfHulls b P = (stations : List Station) → IsHullOf b.flood stations → P stations

abbrev pub OfBoxes : Balance → ℤ → ℤ → (PlaneBox → Type 0) → Type 0
OfBoxes b a f P = (planes : PlaneBox) → IsUprightBox (b.first a f) (b.last a f) planes → P planes

-- both residuals rise with both levels
pub record Rises (b : Balance) : Type 0 where
  pub from_last : OfHulls b (λ s. (a c f g : ℤ) → a ≤ℤ c → f ≤ℤ g → b.from_last s a f ≼ b.from_last s c g)
  pub from_first : OfHulls b (λ s. (a c f g : ℤ) → a ≤ℤ c → f ≤ℤ g → b.from_first s a f ≼ b.from_first s c g)

-- levels that may be read, levels beside them, and heights of a hull
pub record IsFar (z : ℤ) : Type 0 where
  pub from : neg_ℤ (pos (2 ^ 40)) ≤ℤ z
  pub to : z ≤ℤ pos (2 ^ 40)

pub record IsLevel (z : ℤ) : Type 0 where
  pub from : neg_ℤ (pos (2 ^ 30)) ≤ℤ z
  pub to : z ≤ℤ pos (2 ^ 30)

pub record IsHeight (z : ℤ) : Type 0 where
  pub from : neg_ℤ (pos (2 ^ 28)) ≤ℤ z
  pub to : z ≤ℤ pos (2 ^ 28)

-- half of a slope
pub record IsHalf (z : ℤ) : Type 0 where
  pub from : pos 0 <ℤ z
  pub to : z ≤ℤ pos (2 ^ 28)

-- the plane from m - half to m + half
pub record IsOnSlope (m half : ℤ) : Type 0 where
  pub m_level : IsLevel m
  pub half_level : IsLevel half
  pub a_level : IsLevel (m -ℤ half)
  pub f_level : IsLevel (m +ℤ half)

-- ---- what is known at levels a and f. The residual about the last station isn't above 0; or it is about 0 or more
pub record IsLastKept (b : Balance) (a f : ℤ) : Type 0 where
  pub is : OfHulls b (λ s. b.from_last s a f ≼ nought)

pub record IsLastPassed (b : Balance) (a f : ℤ) : Type 0 where
  pub is : OfHulls b (λ s. OfBoxes b a f (λ planes. negative (residual_width b.flood planes) ≺ b.from_last s a f))

-- the residual about the first station isn't below 0; or it is about 0 or less
pub record IsFirstKept (b : Balance) (a f : ℤ) : Type 0 where
  pub is : OfHulls b (λ s. nought ≼ b.from_first s a f)

pub record IsFirstPassed (b : Balance) (a f : ℤ) : Type 0 where
  pub is : OfHulls b (λ s. OfBoxes b a f (λ planes. b.from_first s a f ≺ residual_width b.flood planes))

-- the volume is enough, or it is short but for the width of an enclosure
pub record IsEnough (b : Balance) (a f : ℤ) : Type 0 where
  pub is : OfHulls b (λ s. b.need ≼ b.volume s a f)

pub record IsShort (b : Balance) (a f : ℤ) : Type 0 where
  pub is : OfHulls b (λ s. OfBoxes b a f (λ planes. b.volume s a f ≺ b.need ⊕ volume_width b.flood planes))

-- ---- the fore corner of a box, at level a at the first station and f at the last
pub record HasSigns (b : Balance) (a f : ℤ) : Type 0 where
  pub last : IsLastKept b a f
  pub first : IsFirstKept b a f

-- it can't move inwards by one of its levels: the residual is about 0 there, or the limit is met
pub record IsSharp (b : Balance) (a f most least : ℤ) : Type 0 where
  pub last : (a ≡ most) ⊎ IsLastPassed b (a +ℤ pos 1) f
  pub first : (f ≡ least) ⊎ IsFirstPassed b a (f -ℤ pos 1)

-- the levels of a corner and the limits to which it may move
pub record AreLimits (a f most least : ℤ) : Type 0 where
  pub a_level : IsLevel a
  pub f_level : IsLevel f
  pub most_level : IsLevel most
  pub least_level : IsLevel least
  pub a_to : a ≤ℤ most
  pub f_from : least ≤ℤ f

-- the corner (c, g) has its signs, and lies from (a, f) on inwards, up to the limits
pub record IsInward (b : Balance) (a f most least c g : ℤ) : Type 0 where
  pub signs : HasSigns b c g
  pub a_from : a ≤ℤ c
  pub a_to : c ≤ℤ most
  pub f_from : least ≤ℤ g
  pub f_to : g ≤ℤ f

-- m is the candidate for planes from m - half to m + half
pub record IsCandidate (b : Balance) (half m : ℤ) : Type 0 where
  pub from : (b.low -ℤ half) ≤ℤ m
  pub to : m ≤ℤ (b.high +ℤ half)
  pub enough : (m ≡ b.high +ℤ half) ⊎ IsEnough b (m -ℤ half) (m +ℤ half)
  pub lower : (m ≡ b.low -ℤ half) ⊎ IsShort b ((m -ℤ pos 1) -ℤ half) ((m -ℤ pos 1) +ℤ half)

pub mirrored-rises : {b : Balance} → Rises b → Rises (mirrored b)
mirrored-rises r = record {
  from_last = λ s is a c f g h k. r.from_first s is f g a c k h;
  from_first = λ s is a c f g h k. r.from_last s is f g a c k h;
}

-- a box of levels: its fore corner is (a1, f2), its aft corner (a2, f1). Both have their signs, and no level can move by one grid unit
pub record IsSharpBox (b : Balance) (a1 a2 f1 f2 : ℤ) : Type 0 where
  pub a_order : a1 ≤ℤ a2
  pub f_order : f1 ≤ℤ f2
  pub fore : HasSigns b a1 f2
  pub aft : HasSigns (mirrored b) f1 a2
  pub fore_sharp : IsSharp b a1 f2 a2 f1
  pub aft_sharp : IsSharp (mirrored b) f1 a2 f2 a1
