use Rattle.std.proofs.Common.{◌≡◌, ◌++◌, ◌+◌, ◌≤◌, map, length}
use Rattle.std.specs.List.{AllByRecursion}
use Rattle.hull_model.specs.Body.{IsPoint}
use Rattle.hull_model.specs.Nodes.{IsStarboard, node_at}
use Rattle.hull_model.specs.Zipper.{zipper}
use Rattle.hull_model.specs.Strips.{corners_of}
use Rattle.hull_model.proofs.zipper.push_zipper.Given as goal

abbrev pub invariant-loop-aft_rest : goal.invariant-loop-aft_rest
invariant-loop-aft_rest l = record {
  p : IsStarboard l.p;
  q : IsStarboard l.q;
  aft : AllByRecursion IsPoint l.aft_rest;
  fore : AllByRecursion IsPoint l.fore_rest;
  few : length l.aft_rest + length l.fore_rest ≤ 64;
  made : map corners_of l.triangles.items ++ zipper l.p (map (node_at l.p.x) l.aft_rest) l.q (map (node_at l.q.x) l.fore_rest)
      ≡ map corners_of l.fn.triangles.items ++ zipper l.fn.a (map (node_at l.fn.a.x) l.fn.aft) l.fn.b (map (node_at l.fn.b.x) l.fn.fore);
}

abbrev pub decreases-loop-aft_rest : goal.decreases-loop-aft_rest
decreases-loop-aft_rest l = length l.aft_rest + length l.fore_rest
