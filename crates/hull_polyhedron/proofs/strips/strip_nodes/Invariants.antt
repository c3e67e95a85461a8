use Rattle.std.proofs.Common.{◌≡◌, ◌++◌, length}
use Rattle.std.specs.List.{AllByRecursion}
use Rattle.hull_model.specs.Body.{IsStation}
use Rattle.hull_model.specs.Nodes.{IsNode}
use Rattle.hull_polyhedron.specs.Parts.{parts_from}
use Rattle.hull_polyhedron.specs.StripLists.{joined, node_lists}
use Rattle.hull_polyhedron.proofs.strips.strip_nodes.Given as goal

abbrev pub invariant-loop-rest : goal.invariant-loop-rest
invariant-loop-rest l = record {
  each : AllByRecursion IsStation l.rest;
  nodes : l.nodes.items ++ joined (node_lists l.rest) ≡ joined (node_lists l.stations);
  parts : l.parts.items ++ parts_from (length l.nodes.items) (node_lists l.rest) ≡ parts_from 0 (node_lists l.stations);
  limits : AllByRecursion IsNode l.nodes.items;
}

abbrev pub decreases-loop-rest : goal.decreases-loop-rest
decreases-loop-rest l = length l.rest
