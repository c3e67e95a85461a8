use Rattle.std.proofs.lemmas.Int.{to_z-of_z}
use Rattle.std.specs.Int.{w64}
use mir.Val.{SFits}
use Rattle.compartment_loss.proofs.UprightBoxes.{upright_box, upright_is_in}
use Rattle.compartment_loss.proofs.upright_left.box_at.Goals as goal

pub returns-clause-upright : goal.returns-clause-upright
returns-clause-upright c =
    let a : SFits w64 c.args.a = c.ranges.a in
    let f : SFits w64 c.args.f = c.ranges.f in
    upright_box c.in-Some.planes c.args.a c.args.f (simp to_z-of_z at c.in-Some.ensures.same) c.in-Some.ensures.direction

pub returns-clause-contains : goal.returns-clause-contains
returns-clause-contains c plane is =
    let a : SFits w64 c.args.a = c.ranges.a in
    let f : SFits w64 c.args.f = c.ranges.f in
    upright_is_in c.in-Some.planes c.args.a c.args.f (simp to_z-of_z at c.in-Some.ensures.same) c.in-Some.ensures.direction plane is
