use Rattle.std.proofs.Common.{◌≡◌, List, length, take}
use Rattle.hull_model.specs.declared.station.Station.{Station}
use Rattle.hull_model.specs.Body.{IsHull}
use Rattle.hull_polyhedron.specs.FacesOf.{AreFacesOf}
use Rattle.hull_report.specs.Spelling.{AreLines}
use Rattle.hull_cli.specs.Tables.{AreHydroLines}
use Rattle.hull_cli.proofs.hydro.hydro_lines.Given as goal

abbrev pub invariant-loop-draft : goal.invariant-loop-draft
invariant-loop-draft l = record {
  count : length l.lines.items ≡ l.draft-index;
  grammar : AreLines l.lines.items;
  rows : (hull : List Station) → IsHull hull → AreFacesOf hull l.faces → AreHydroLines hull l.water (take l.draft-index l.drafts) l.lines.items;
}
