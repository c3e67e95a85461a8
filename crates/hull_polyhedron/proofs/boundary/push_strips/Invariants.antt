use Rattle.std.proofs.Common.{◌≡◌, ◌++◌, length}
use Rattle.std.specs.List.{AllByRecursion}
use Rattle.hull_model.specs.Body.{IsStation}
use Rattle.hull_polyhedron.specs.Listed.{kept, strips}
use Rattle.hull_polyhedron.specs.Parts.{parts_from}
use Rattle.hull_polyhedron.specs.StripLists.{face_lists}
use Rattle.hull_polyhedron.proofs.boundary.push_strips.Given as goal

abbrev pub invariant-loop-rest : goal.invariant-loop-rest
invariant-loop-rest l = record {
  each : AllByRecursion IsStation l.rest;
  faces : l.faces ++ kept (strips l.rest) ≡ l.fn.faces ++ kept (strips l.stations);
  parts : l.parts.items ++ parts_from (length l.faces) (face_lists l.rest) ≡ l.fn.parts.items ++ parts_from (length l.fn.faces) (face_lists l.stations);
}

abbrev pub decreases-loop-rest : goal.decreases-loop-rest
decreases-loop-rest l = length l.rest
