use Rattle.std.proofs.Common.{◌≡◌, ◌++◌, map, drop}
use Rattle.std.specs.List.{flat_map, AllByRecursion}
use Rattle.hull_model.specs.Nodes.{mirrored}
use Rattle.hull_model.specs.TetrahedronCut.{with_corners}
use Rattle.hull_model.specs.Strips.{corners_of}
use Rattle.hull_model.specs.Tetrahedra.{to_centreplane, tet_of, IsWithinLimits}
use Rattle.hull_model.proofs.tet.push_mirrored.Given as goal

abbrev pub invariant-loop-t : goal.invariant-loop-t
invariant-loop-t l = record {
  limits : AllByRecursion IsWithinLimits l.fn.tets.items → AllByRecursion IsWithinLimits l.tets.items;
  tets : l.tets.items ++ map tet_of (map (with_corners mirrored) (flat_map to_centreplane (map corners_of (drop l.t-index l.triangles))))
      ≡ l.fn.tets.items ++ map tet_of (map (with_corners mirrored) (flat_map to_centreplane (map corners_of l.triangles)));
}
