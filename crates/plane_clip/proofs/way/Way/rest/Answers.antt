use Rattle.std.proofs.Common.{◌-ℤ◌, arith}
use Rattle.std.proofs.lemmas.Int.{ints, to_z-of_z}
use Rattle.std.specs.Int.{w128}
use mir.Val.{SFits}
use Rattle.plane_clip.proofs.WayValues.{way_part_fits, rest_fits, rest-value}
use Rattle.plane_clip.proofs.way.Way.rest.Goals as goal

pub returns : goal.returns
returns c =
    let n : SFits w128 c.args.self.n = way_part_fits c.args.self.n c.args.self.d c.args.self.part.0 c.args.self.part.1 c.args.self.whole.1 in
    let d : SFits w128 c.args.self.d = rest_fits c.args.self.d c.args.self.whole.0 c.args.self.whole.1 in
    let rest : SFits w128 (c.args.self.d -ℤ c.args.self.n) = way_part_fits (c.args.self.d -ℤ c.args.self.n) c.args.self.d (omega (arith, ints, c.args.self.part.1)) (omega (arith, ints, c.args.self.part.0)) c.args.self.whole.1 in
    simp to_z-of_z (rest-value c.args.self.n c.args.self.d c.args.self.whole.0)
