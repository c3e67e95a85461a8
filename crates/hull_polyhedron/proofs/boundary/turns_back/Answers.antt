use Rattle.std.proofs.Common.{ap, ◌∙◌, pos, rules}
use Rattle.std.proofs.lemmas.Int.{to_z-of_z}
use Rattle.std.specs.Int.{w64}
use Rattle.std.specs.Prelude.{int_lt}
use mir.Val.{SFits}
use Rattle.hull_model.specs.declared.face.Face.{Face}
use Rattle.hull_model.specs.Strips.{corners_of}
use Rattle.hull_polyhedron.proofs.Kept.{turn_by_area}
use Rattle.hull_polyhedron.proofs.boundary.turns_back.Goals as goal

pub returns : goal.returns
returns c =
    let fits : SFits w64 c.of.result.ay = search rules in
    simp to_z-of_z (ap (λ (f : Face). int_lt (pos 0) f.ay) c.of.ensures.same ∙ turn_by_area (corners_of c.args.t.now))
