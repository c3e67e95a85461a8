use Rattle.std.proofs.Common.{arith, ap, length}
use Rattle.hull_polyhedron.proofs.Lengths.{length_map}
use Rattle.hull_model.specs.Strips.{corners_of}
use Rattle.hull_polyhedron.proofs.RunningTotals.{few_triangles}
use Rattle.hull_polyhedron.proofs.strips.strip_totals.Goals as goal

pub of_strip-requires : goal.of_strip-requires
of_strip-requires c = omega (arith, few_triangles c.args.aft.now c.args.fore.now c.requires.aft c.requires.fore, length_map corners_of c.in_ok-triangles.triangles.items, ap length c.in_ok-triangles.ensures, ap length c.deref.ensures.value)
