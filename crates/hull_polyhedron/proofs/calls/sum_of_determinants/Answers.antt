use Rattle.std.proofs.lemmas.Int.{to_z-of_z}
use Rattle.std.specs.Int.{w128}
use mir.Val.{SFits}
use Rattle.hull_polyhedron.proofs.FaceSums.{face_step}
use Rattle.hull_polyhedron.proofs.calls.sum_of_determinants.Goals as goal

pub loop-rest-preserved : goal.loop-rest-preserved
loop-rest-preserved c =
    let fits : SFits w128 c.plus-sum.result = record { sfits = c.plus-sum.type_inv } in
    let fits-determinant : SFits w128 c.determinant.result = record { sfits = c.determinant.type_inv } in
    let value = simp to_z-of_z at c.plus-sum.ensures.value in
    simp to_z-of_z (face_step c.loop-rest.rest.now _ _ c.plus-sum.result c.determinant.result _ c.in-len1-up.len_at_least value c.determinant.ensures.value c.plus-sum.ensures.size c.loop-rest.invariant)
