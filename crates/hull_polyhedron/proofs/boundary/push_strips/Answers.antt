use Rattle.std.proofs.Common.{◌∙◌, sym, length}
use Rattle.hull_polyhedron.proofs.Kept.{no_strip}
use Rattle.hull_polyhedron.proofs.LastStrips.{all_face_parts}
use Rattle.hull_polyhedron.proofs.boundary.push_strips.Goals as goal

pub returns-clause-faces : goal.returns-clause-faces
returns-clause-faces c = sym (no_strip c.loop-rest.faces c.loop-rest.rest.now c.in_default.len_below) ∙ c.loop-rest.invariant.faces

pub returns-clause-parts : goal.returns-clause-parts
returns-clause-parts c = all_face_parts c.loop-rest.parts.items (length c.loop-rest.faces) c.loop-rest.rest.now c.in_default.len_below c.loop-rest.invariant.parts
