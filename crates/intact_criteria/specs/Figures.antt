-- The figures of a choice on a side, and the depths of the openings.
use Rattle.std.specs.Prelude.{ℕ, zero, suc, pos, List, length, Option, Some, None, slice_get}
use Rattle.exact_algebra.proofs.Fraction.{Fraction, nought, ◌⊖◌, ◌⊗◌, inverse}
use Rattle.exact_algebra.proofs.Whole.{whole}
use Rattle.hull_model.specs.declared.opening.Opening.{Opening}
use Rattle.hull_model.specs.declared.station.Station.{Station}
use Rattle.hull_model.specs.declared.water.Water.{Water}
use Rattle.hull_model.specs.LevelPlanes.{level_plane}
use Rattle.hull_model.specs.Waterplane.{Waterplane}
use Rattle.loading_sheet.specs.declared.loading.Loading.{Loading}
use Rattle.dynamic_lever.specs.Levers as levers
use Rattle.dynamic_lever.specs.Sides.{port, starboard}
use Rattle.intact_criteria.specs.declared.finding.Side.{Side}
use Rattle.intact_criteria.specs.declared.finding.Side.TheVariants.{Port, Starboard}
use Rattle.intact_criteria.specs.Choice.{Choice}

-- GZ and separation by the degree in mm, GM in mm, and the depth in mm of the opening at a place of the list at a degree
pub record Figures : Type 0 where
  pub gz : ℕ → Fraction
  pub separation : ℕ → Fraction
  pub gm : Fraction
  pub openings : ℕ
  pub depth : ℕ → ℕ → Fraction

-- the depth of an opening on the low side: the level less (c z - s y) / r
unfoldable pub depth_under : Waterplane → Opening → Fraction
depth_under plane o = plane.a ⊖ (whole (pos plane.c) ⊗ whole o.z ⊖ whole (pos plane.s) ⊗ whole o.y) ⊗ inverse (whole (pos plane.r))

abbrev pub depth_under_if_there : Waterplane → Option Opening → Fraction
depth_under_if_there plane None = nought
depth_under_if_there plane (Some o) = depth_under plane o

abbrev pub sign_of : Side → Fraction
sign_of Port = port
sign_of Starboard = starboard

abbrev pub plane_at : Choice → ℕ → Waterplane
plane_at choice k = level_plane (choice.direction k) (choice.level k)

-- of a hull with a loading in a water
abbrev pub figures_of : List Station → Loading → Water → List Opening → Choice → Side → Figures
figures_of hull loading water openings choice side = record {
  gz = λ k. levers.gz loading water (plane_at choice k) hull (sign_of side);
  separation = λ k. levers.separation loading water (plane_at choice k) hull (sign_of side);
  gm = levers.gm loading water choice.upright hull;
  openings = length openings;
  depth = λ place k. depth_under_if_there (plane_at choice k) (slice_get openings place);
}

-- the area under GZ from upright to a degree, in mm·rad, by the separations
abbrev pub area_to : Figures → ℕ → Fraction
area_to f zero = nought
area_to f (suc k) = f.separation (suc k) ⊖ f.separation 0

-- a criterion holds at a choice where it does on both sides
abbrev pub OnBothSides : (Figures → Type 0) → (Side → Figures) → Type 0
OnBothSides C figures = C (figures Port) × C (figures Starboard)
