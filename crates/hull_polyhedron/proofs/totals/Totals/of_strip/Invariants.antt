use Rattle.std.proofs.Common.{◌≡◌, ◌*◌, map, drop}
use Rattle.hull_model.specs.Strips.{corners_of}
use Rattle.hull_polyhedron.specs.TotalsModel.{plus, triangle_totals, AreAtMost}
use Rattle.hull_polyhedron.proofs.totals.Totals.of_strip.Given as goal

abbrev pub invariant-loop-t : goal.invariant-loop-t
invariant-loop-t l = record {
  value : plus l.sum (triangle_totals (map corners_of (drop l.t-index l.triangles))) ≡ triangle_totals (map corners_of l.triangles);
  size : AreAtMost (l.t-index * 3) l.sum;
}
