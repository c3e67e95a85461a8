use Rattle.std.proofs.Common.{pos, ◌*◌, ◌*ℤ◌, List, arith}
use Rattle.std.proofs.lemmas.Int.{ints, to_z-of_z}
use Rattle.std.specs.Int.{w64}
use mir.Val.{SFits}
use Rattle.exact_algebra.proofs.Span.{contains_whole}
use Rattle.exact_algebra.proofs.Whole.{whole}
use Rattle.hull_model.specs.declared.station.Station.{Station}
use Rattle.hull_model.specs.Body.{IsHull}
use Rattle.hull_model.specs.Waterplane.{upright}
use Rattle.hull_model.proofs.Magnitudes.{fits_64}
use Rattle.hull_polyhedron.specs.FacesOf.{AreFacesOf}
use Rattle.hydro_tables.specs.Extent.{AreMeasured}
use Rattle.hydro_tables.specs.Figures.{integrals_of}
use Rattle.hydro_tables.specs.Row.{AreEnclosed}
use Rattle.hydro_tables.specs.Widths.{widths_of}
use Rattle.hydro_tables.proofs.HullLimits.{are_limited}
use Rattle.hydro_tables.proofs.PlaneWidths.{reach_is, volume_bound_is, lid_bound_is}
use Rattle.hydro_tables.proofs.row.hydro_row.Goals as goal

enclosed : (c : goal.After-row_of) (stations : List Station) → IsHull stations → AreFacesOf stations c.args.faces.now → AreEnclosed c.measure-below.result c.lid-lid.result (integrals_of stations c.args.draft)
enclosed c stations hull are =
    let draft : SFits w64 c.from-level.result = record { sfits = c.from-level.type_inv } in
    let level : SFits w64 (c.from-level.result *ℤ pos 1024) = fits_64 _ (omega (arith, ints, c.from-level.ensures, c.requires.draft)) in
    let at = whole (pos c.args.draft) in
    let level_holds = contains_whole 10 (pos c.args.draft) in
    let is = rw c.from-level.ensures at (simp to_z-of_z at c.level_plane.ensures.in_box) at level_holds in
    let area = rw c.from-level.ensures at (simp to_z-of_z at c.lid-lid.ensures.area) in
    let sx = rw c.from-level.ensures at (simp to_z-of_z at c.lid-lid.ensures.sx) in
    let syy = rw c.from-level.ensures at (simp to_z-of_z at c.lid-lid.ensures.syy) in
    let sxx = rw c.from-level.ensures at (simp to_z-of_z at c.lid-lid.ensures.sxx) in
    record {
      volume = c.measure-below.ensures.volume stations hull are (upright at) is;
      mx = c.measure-below.ensures.mx stations hull are (upright at) is;
      mu = c.measure-below.ensures.mu stations hull are (upright at) is;
      area = area stations hull are at level_holds;
      sx = sx stations hull are at level_holds;
      syy = syy stations hull are at level_holds;
      sxx = sxx stations hull are at level_holds;
    }

measured : (c : goal.After-row_of) → AreMeasured (widths_of c.args.faces.now c.args.draft) c.measure-below.result c.lid-lid.result
measured c =
    let draft : SFits w64 c.from-level.result = record { sfits = c.from-level.type_inv } in
    let level : SFits w64 (c.from-level.result *ℤ pos 1024) = fits_64 _ (omega (arith, ints, c.from-level.ensures, c.requires.draft)) in
    let faces = c.args.faces.now in
    let box = rw c.from-level.ensures at (simp to_z-of_z at c.level_plane.ensures.level) in
    let volume = volume_bound_is c.level_plane.result c.args.draft box faces in
    let reach = reach_is c.level_plane.result c.args.draft box faces in
    let lid = lid_bound_is faces c.args.draft (pos (c.args.draft * 1024)) in
    let area = rw c.from-level.ensures at (simp to_z-of_z at c.lid-lid.ensures.area_width) in
    let sx = rw c.from-level.ensures at (simp to_z-of_z at c.lid-lid.ensures.sx_width) in
    let syy = rw c.from-level.ensures at (simp to_z-of_z at c.lid-lid.ensures.syy_width) in
    let sxx = rw c.from-level.ensures at (simp to_z-of_z at c.lid-lid.ensures.sxx_width) in
    record {
      volume = rw volume at c.measure-below.ensures.volume_room;
      mx = rw volume at c.measure-below.ensures.mx_width;
      mu = rw (volume, reach) at c.measure-below.ensures.mu_width;
      area = rw lid at area;
      sx = rw lid at sx;
      syy = rw lid at syy;
      sxx = rw lid at sxx;
    }

pub returns-clause-holds : goal.returns-clause-holds
returns-clause-holds c stations hull are =
    let limits = are_limited c.args.faces.now c.args.draft stations hull are c.keep_limits.ensures c.requires.draft in
    c.row_of.ensures.holds (integrals_of stations c.args.draft) limits.sx (enclosed c stations hull are)

pub returns-clause-widths : goal.returns-clause-widths
returns-clause-widths c stations hull are =
    let limits = are_limited c.args.faces.now c.args.draft stations hull are c.keep_limits.ensures c.requires.draft in
    c.row_of.ensures.widths (widths_of c.args.faces.now c.args.draft) (integrals_of stations c.args.draft) limits (enclosed c stations hull are) (measured c)
