use Rattle.std.proofs.Common.{◌≡◌, ◌++◌, map, drop}
use Rattle.std.specs.List.{AllByRecursion}
use Rattle.hull_model.specs.Body.{IsPoint}
use Rattle.hull_model.specs.Nodes.{IsNode, node_at}
use Rattle.hull_model.specs.Zipper.{chain}
use Rattle.hull_polyhedron.proofs.strips.push_chain.Given as goal

abbrev pub invariant-loop-point : goal.invariant-loop-point
invariant-loop-point l = record {
  left : AllByRecursion IsPoint (drop l.point-index l.point-items);
  limits : AllByRecursion IsNode l.fn.nodes.items → AllByRecursion IsNode l.nodes.items;
  made : l.nodes.items ++ map (node_at l.x) (drop l.point-index l.point-items) ≡ l.fn.nodes.items ++ chain l.station;
}
