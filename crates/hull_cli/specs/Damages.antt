-- The damage lines of a report, and what stands behind them.
use Rattle.std.specs.Prelude.{ℕ, ◌≡◌, List}
use Rattle.hull_model.specs.declared.station.Station.{Station}
use Rattle.hull_model.specs.Body.{IsHull}
use Rattle.hull_model.specs.declared.water.Water.{Water}
use Rattle.hull_polyhedron.specs.FacesOf.{AreFacesOf}
use Rattle.hull_polyhedron.specs.declared.faces.Faces.{Faces}
use Rattle.compartment_loss.specs.declared.flooded_hull.FloodedHull.{FloodedHull}
use Rattle.damage_box.specs.Residuals.{IsHullOf}
use Rattle.damage_box.specs.SharpDamageBox.{IsSharpDamageBox, IsSunk, HasNoStart}
use Rattle.damage_box.specs.declared.draft_box.DraftBox.{DraftBox}
use Rattle.damage_box.specs.declared.reading.Corner.{Corner}
use Rattle.damage_box.specs.declared.tip.Tip.{Tip}
use Rattle.damage_box.specs.declared.tip.Tip.TheVariants.{Fore, Aft}
use Rattle.job_reader.specs.declared.job.Damage.{Damage}
use Rattle.job_reader.specs.declared.job.Job.{Job}
use Rattle.loading_sheet.specs.declared.loading.Loading.{Loading}
use Rattle.hull_report.specs.declared.line.CaseEnd.{CaseEnd}
use Rattle.hull_report.specs.declared.line.CaseEnd.TheVariants as case_end
use Rattle.hull_report.specs.declared.line.Line.{Line}
use Rattle.hull_report.specs.declared.line.Line.TheVariants as line
use Rattle.hull_report.specs.declared.line.Sides.{Sides}
use Rattle.hull_cli.specs.Figures.{Shows}
use Rattle.hull_cli.specs.Lists.{NumberedPairs}

-- the faces are the boundary of a hull
abbrev pub AreOfSomeHull : Faces → Type 0
AreOfSomeHull faces = (hull : List Station) × IsHull hull × AreFacesOf hull faces

-- the levels of a box
abbrev pub sides_of : DraftBox → Sides
sides_of box = record { a1 = box.a1; a2 = box.a2; f1 = box.f1; f2 = box.f2 }

module _ (flood : FloodedHull) (loading : Loading) (water : Water) (hull : List Station) where
  -- the levels of a sharp damage box
  pub record IsSettled (sides : Sides) : Type 0 where
    pub box : DraftBox
    pub sharp : IsSharpDamageBox flood loading water hull box
    pub same : sides ≡ sides_of box

  -- none of the sixteen candidates of a tip qualifies
  pub record HasNone (tip : Tip) : Type 0 where
    pub tried : List Corner
    pub none : HasNoStart flood loading water hull tip tried

  -- how it ends: by a sharp damage box; the ship sinks, by what is left in m³; no search starts at the fore or the aft corner
  abbrev pub EndsAs : CaseEnd → Type 0
  EndsAs (case_end.Settled sides) = IsSettled sides
  EndsAs (case_end.Sinks left) = Shows 9 6 (IsSunk flood loading water hull) left
  EndsAs case_end.NoStartFore = HasNone Fore
  EndsAs case_end.NoStartAft = HasNone Aft

-- the line of the damage case of this number: how the hull with its slabs flooded ends under this loading
pub record IsCaseLine (hull : List Station) (water : Water) (loading : Loading) (case : ℕ) (damage : Damage) (l : Line) : Type 0 where
  pub flood : FloodedHull
  pub flooded : IsHullOf flood hull
  pub slabs : flood.slabs.items ≡ damage.slabs
  pub end : CaseEnd
  pub ends : EndsAs flood loading water hull end
  pub fields : l ≡ line.Damage case end

-- a line for each damage case
abbrev pub AreDamageLines : List Station → Job → Loading → List Line → Type 0
AreDamageLines hull job loading lines = NumberedPairs (IsCaseLine hull job.water loading) 1 job.damages lines
