use Rattle.std.proofs.Common.{length}
use Rattle.hull_polyhedron.proofs.LastStrips.{all_nodes, all_node_parts}
use Rattle.hull_polyhedron.proofs.strips.strip_nodes.Goals as goal

pub returns-clause-nodes : goal.returns-clause-nodes
returns-clause-nodes c = all_nodes c.loop-rest.nodes.items c.loop-rest.rest.now c.in_default.len_below c.loop-rest.invariant.nodes

pub returns-clause-parts : goal.returns-clause-parts
returns-clause-parts c = all_node_parts c.loop-rest.parts.items (length c.loop-rest.nodes.items) c.loop-rest.rest.now c.in_default.len_below c.loop-rest.invariant.parts
