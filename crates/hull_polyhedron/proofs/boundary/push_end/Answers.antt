use Rattle.std.proofs.Common.{◌∙◌, sym}
use Rattle.hull_polyhedron.proofs.Kept.{no_wall}
use Rattle.hull_polyhedron.proofs.boundary.push_end.Goals as goal

pub returns : goal.returns
returns c = sym (no_wall c.loop-rest.faces c.args.outwards c.loop-rest.rest.now c.in_default.len_below) ∙ c.loop-rest.invariant.1
