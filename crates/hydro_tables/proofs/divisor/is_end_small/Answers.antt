use Rattle.std.proofs.lemmas.Int.{to_z-of_z}
use Rattle.std.specs.Int.{w128}
use mir.Val.{SFits}
use Rattle.hydro_tables.proofs.SmallEnds.{small_end}
use Rattle.hydro_tables.proofs.divisor.is_end_small.Goals as goal

pub returns : goal.returns
returns c =
    let least : SFits w128 c.args.least = c.ranges.least in
    let end : SFits w128 c.args.end = c.ranges.end in
    let value = simp to_z-of_z at c.unsigned_abs.ensures.value in
    simp to_z-of_z (small_end c.unsigned_abs.result c.args.end c.args.least c.args.reach value c.requires.end)
