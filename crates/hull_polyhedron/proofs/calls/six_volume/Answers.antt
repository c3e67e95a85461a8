use Rattle.std.proofs.Common.{◌∙◌, ap, List, map}
use Rattle.std.proofs.lemmas.Int.{to_z-of_z}
use Rattle.std.specs.Int.{w128}
use mir.Val.{SFits}
use Rattle.hull_model.specs.declared.face.Face.{Face}
use Rattle.hull_model.specs.Boundary.{sum_of}
use Rattle.hull_model.specs.Faces.{determinant, triangle_of}
use Rattle.exact_algebra.proofs.Whole.{whole}
use Rattle.hull_model.specs.Tetrahedra.{hull_tetrahedra}
use Rattle.hull_polyhedron.proofs.SixVolume.{balanced_six}
use Rattle.hull_polyhedron.proofs.Uncut.{uncut_volume}
use Rattle.hull_polyhedron.proofs.calls.six_volume.Goals as goal

pub returns-clause-tetrahedra : goal.returns-clause-tetrahedra
returns-clause-tetrahedra c = λ stations hull are.
    let fits : SFits w128 c.sum_of_determinants.result = record { sfits = c.sum_of_determinants.type_inv } in
    simp to_z-of_z (c.sum_of_determinants.ensures.sum ∙ ap (λ (fs : List Face). sum_of determinant (map triangle_of fs)) c.list.ensures.same
    ∙ balanced_six (map triangle_of c.args.faces.now.list) stations hull.each hull.places_rise are.boundary.balanced)

pub returns-clause-uncut : goal.returns-clause-uncut
returns-clause-uncut c = λ stations hull are.
    let fits : SFits w128 c.sum_of_determinants.result = record { sfits = c.sum_of_determinants.type_inv } in
    simp to_z-of_z (ap whole (c.sum_of_determinants.ensures.sum ∙ ap (λ (fs : List Face). sum_of determinant (map triangle_of fs)) c.list.ensures.same
    ∙ balanced_six (map triangle_of c.args.faces.now.list) stations hull.each hull.places_rise are.boundary.balanced) ∙ uncut_volume (hull_tetrahedra stations))
