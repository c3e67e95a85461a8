-- The section lines of a report.
use Rattle.std.specs.Prelude.{ℕ, pos, ◌≡◌, List, length, slice_get, Some}
use Rattle.outward_interval.specs.declared.figure.Figure.{Figure}
use Rattle.hull_model.specs.declared.station.Station.{Station}
use Rattle.hull_model.specs.Section.{section_area, section_moment}
use Rattle.hull_model.specs.Stations.{points_at}
use Rattle.hull_report.specs.declared.line.Line.{Line}
use Rattle.hull_report.specs.declared.line.Line.TheVariants as line
use Rattle.hull_cli.specs.Figures.{IsLeast, Shows}
use Rattle.hull_cli.specs.Lists.{NumberedFrom}

-- the line of one station of a hull at a draft: its x, and the figures in m² and m³ of the least spans of its exact section
pub record IsSectionLine (hull : List Station) (draft station : ℕ) (l : Line) : Type 0 where
  pub at : Station
  pub there : slice_get hull station ≡ Some at
  pub area : Figure
  pub shows_area : Shows 6 6 (IsLeast (section_area (points_at hull station) draft)) area
  pub moment : Figure
  pub shows_moment : Shows 9 9 (IsLeast (section_moment (points_at hull station) draft)) moment
  pub x : ℕ
  pub place : pos x ≡ at.x
  pub fields : l ≡ line.Section station x draft area moment

-- one line for each station of a hull at a draft, from station 0 up
pub record AreSectionLines (hull : List Station) (draft : ℕ) (lines : List Line) : Type 0 where
  pub count : length lines ≡ length hull
  pub each : NumberedFrom (IsSectionLine hull draft) 0 lines
