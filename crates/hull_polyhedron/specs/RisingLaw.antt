-- The law of rising levels: what is left of an integral where slabs are flooded doesn't fall when the levels rise.
use Rattle.std.specs.Prelude.{◌≡◌, ◌*◌, true, List}
use Rattle.exact_algebra.proofs.Fraction.{Fraction, nought, ◌⊕◌, ◌⊗◌, ◌⊖◌, ◌≼◌}
use Rattle.exact_algebra.proofs.Whole.{whole}
use Rattle.hull_model.specs.declared.slab.Slab.{Slab}
use Rattle.hull_model.specs.declared.station.Station.{Station}
use Rattle.hull_model.specs.Body.{IsHull}
use Rattle.hull_model.specs.Waterplane.{Waterplane, Position}
use Rattle.hull_model.specs.Submerged.{first_x, last_x}
use Rattle.hull_model.specs.Flooded.{integral_left, volume_left, mx_left}
use Rattle.hull_model.specs.Slabs.{are_apart}

-- a waterplane of the same direction with both levels at least as high: the ratios c / r and s / r are the same by cross products
pub record IsRaised (low high : Waterplane) : Type 0 where
  pub c : low.c * high.r ≡ high.c * low.r
  pub s : low.s * high.r ≡ high.s * low.r
  pub first : low.a ≼ high.a
  pub last : low.f ≼ high.f

-- a function that is linear in x, by its value at x = 0 and its slope
abbrev pub weight : Fraction → Fraction → Position → Fraction
weight start slope p = start ⊕ slope ⊗ p.x

-- it isn't below 0 at the first and the last station, and so nowhere between
pub record IsWeight (start slope : Fraction) (stations : List Station) : Type 0 where
  pub first : nought ≼ start ⊕ slope ⊗ whole (first_x stations)
  pub last : nought ≼ start ⊕ slope ⊗ whole (last_x stations)

-- for slabs of which no two share more than a plane: what is left of the integral of a weight at the higher levels is at least that at the
-- lower ones
abbrev pub RisingLaw : Type 0
RisingLaw = (low high : Waterplane) → IsRaised low high → (stations : List Station) → IsHull stations → (slabs : List Slab) → are_apart slabs ≡ true
    → (start slope : Fraction) → IsWeight start slope stations → integral_left low stations slabs (weight start slope) ≼ integral_left high stations slabs (weight start slope)

-- what is left of the integral of such a function, by what is left of the volume and of the integral of x
abbrev pub WeightsAreKnown : Type 0
WeightsAreKnown = (plane : Waterplane) (stations : List Station) (slabs : List Slab) (start slope : Fraction)
    → integral_left plane stations slabs (weight start slope) ≡ start ⊗ volume_left plane stations slabs ⊕ slope ⊗ mx_left plane stations slabs

-- the moment of what is left about the last station, and about the first
abbrev pub moment_from_last : Waterplane → List Station → List Slab → Fraction
moment_from_last plane stations slabs = whole (last_x stations) ⊗ volume_left plane stations slabs ⊖ mx_left plane stations slabs

abbrev pub moment_from_first : Waterplane → List Station → List Slab → Fraction
moment_from_first plane stations slabs = mx_left plane stations slabs ⊖ whole (first_x stations) ⊗ volume_left plane stations slabs

-- the volume that is left and its moments about both ends rise with the levels
pub record WhatIsLeftRises (low high : Waterplane) (stations : List Station) (slabs : List Slab) : Type 0 where
  pub volume : volume_left low stations slabs ≼ volume_left high stations slabs
  pub from_last : moment_from_last low stations slabs ≼ moment_from_last high stations slabs
  pub from_first : moment_from_first low stations slabs ≼ moment_from_first high stations slabs

abbrev pub MomentsRise : Type 0
MomentsRise = (low high : Waterplane) → IsRaised low high → (stations : List Station) → IsHull stations → (slabs : List Slab) → are_apart slabs ≡ true
    → WhatIsLeftRises low high stations slabs
