-- Draft brackets: two levels such that a hull displaces at most a given volume at the lower one and at least that at the upper one, at
-- every direction of a bracket; and when they are sharp.
use Rattle.std.specs.Prelude.{◌≡◌, ◌⊎◌, ◌<◌, ◌≤◌, ◌*◌, ◌^◌, ℕ, ℤ, pos, ◌+ℤ◌, ◌-ℤ◌, ◌≤ℤ◌, ◌<ℤ◌, List, unsigned_abs}
use Rattle.exact_algebra.proofs.Fraction.{Fraction, ◌⊕◌, ◌⊗◌, ◌⊖◌, ◌≼◌, ◌≺◌}
use Rattle.exact_algebra.proofs.Whole.{whole}
use Rattle.exact_fraction.specs.declared.ratio.Ratio.{Ratio}
use Rattle.exact_fraction.specs.Fraction.{denominator}
use Rattle.angle_bounds.specs.declared.bracket.Bracket.{Bracket}
use Rattle.angle_bounds.specs.Degrees.{IsDegreeBracket}
use Rattle.hull_model.specs.declared.station.Station.{Station}
use Rattle.hull_model.specs.Body.{IsHull}
use Rattle.hull_model.specs.Boundary.{sum_of}
use Rattle.hull_model.specs.Tetrahedra.{hull_tetrahedra, six_times}
use Rattle.hull_polyhedron.specs.declared.faces.Faces.{Faces}
use Rattle.hull_polyhedron.specs.FacesOf.{AreFacesOf}
use Rattle.flux_moments.specs.declared.plane_box.PlaneBox.{PlaneBox}
use Rattle.flux_moments.specs.Widths.{volume_bound}
use Rattle.hull_model.specs.LevelPlanes.{Direction}
use Rattle.draft_bracket.specs.GridLevels.{LiesIn, volume_at, bottom_of, top_of}

-- what holds of every hull that the faces are the boundary of
abbrev pub OfHulls : Faces → (List Station → Type 0) → Type 0
OfHulls faces P = (hull : List Station) → IsHull hull → AreFacesOf hull faces → P hull

-- a volume that is asked for: above 0 and below 2^67 mm³, with a denominator of at most 2000
pub record IsNeed (need : Ratio) : Type 0 where
  pub some : pos 1 ≤ℤ need.num
  pub size : unsigned_abs need.num < 2 ^ 67 * denominator need
  pub parts : denominator need ≤ 2000

-- the bracket of k degrees
abbrev pub IsOfDegree : ℕ → Bracket → Type 0
IsOfDegree k bracket = IsDegreeBracket k bracket.low.c bracket.low.s bracket.low.r bracket.high.c bracket.high.s bracket.high.r

-- six times the volume of a hull, and that it is less than six times the need
abbrev pub six_of : List Station → ℤ
six_of hull = sum_of (λ t. pos (six_times t)) (hull_tetrahedra hull)

abbrev pub IsTooHeavy : List Station → Fraction → Type 0
IsTooHeavy hull need = whole (six_of hull) ≺ whole (pos 6) ⊗ need

-- the box of the planes with levels from d1 to d2, and that of one level
pub record IsBoxFrom (bracket : Bracket) (d1 d2 : ℤ) (planes : PlaneBox) : Type 0 where
  pub directions : planes.bracket ≡ bracket
  pub aft : (planes.a1 ≡ d1) × (planes.a2 ≡ d2)
  pub fore : (planes.f1 ≡ d1) × (planes.f2 ≡ d2)

abbrev pub IsBoxOf : Bracket → ℤ → PlaneBox → Type 0
IsBoxOf bracket at = IsBoxFrom bracket at at

module _ (hull : List Station) (bracket : Bracket) (need : Fraction) where
  -- the volume at the level is at most the need, and at least the need, at every direction of the bracket
  abbrev pub DisplacesAtMost : ℤ → Type 0
  DisplacesAtMost at = (d : Direction) → LiesIn bracket d → volume_at hull d at ≼ need

  abbrev pub DisplacesAtLeast : ℤ → Type 0
  DisplacesAtLeast at = (d : Direction) → LiesIn bracket d → need ≼ volume_at hull d at

  pub record IsDraftBracket (d1 d2 : ℤ) : Type 0 where
    pub ordered : d1 ≤ℤ d2
    pub at_most : DisplacesAtMost d1
    pub at_least : DisplacesAtLeast d2

module _ (faces : Faces) (hull : List Station) (bracket : Bracket) (need : Fraction) where
  -- it is above the need, and below it, but for the width of what is measured at the level
  abbrev pub IsNearlyAbove : ℤ → Type 0
  IsNearlyAbove at = (planes : PlaneBox) → IsBoxOf bracket at planes → (d : Direction) → LiesIn bracket d → need ⊖ volume_bound faces planes ≺ volume_at hull d at

  abbrev pub IsNearlyBelow : ℤ → Type 0
  IsNearlyBelow at = (planes : PlaneBox) → IsBoxOf bracket at planes → (d : Direction) → LiesIn bracket d → volume_at hull d at ≺ need ⊕ volume_bound faces planes

  -- neither level can be moved inwards by a grid unit
  pub record IsTight (d1 d2 : ℤ) : Type 0 where
    pub next : (top_of faces <ℤ (d1 +ℤ pos 1)) ⊎ IsNearlyAbove (d1 +ℤ pos 1)
    pub before : ((d2 -ℤ pos 1) <ℤ bottom_of faces) ⊎ IsNearlyBelow (d2 -ℤ pos 1)

  -- a level alone has exactly the volume
  abbrev pub IsSharp : ℤ → ℤ → Type 0
  IsSharp d1 d2 = (d1 ≡ d2) ⊎ IsTight d1 d2

-- a sharp draft bracket, with levels of the range
pub record IsSharpBracket (faces : Faces) (bracket : Bracket) (need : Fraction) (d1 d2 : ℤ) (hull : List Station) : Type 0 where
  pub drafts : IsDraftBracket hull bracket need d1 d2
  pub sharp : IsSharp faces hull bracket need d1 d2
  pub from : bottom_of faces ≤ℤ d1
  pub to : d2 ≤ℤ top_of faces
