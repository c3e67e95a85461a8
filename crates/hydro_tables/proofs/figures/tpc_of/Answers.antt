use Rattle.std.proofs.Common.{◌^◌, ◌∙◌, arith}
use Rattle.std.proofs.lemmas.Int.{to_z-of_z}
use Rattle.std.specs.Int.{w128}
use mir.Val.{SFits}
use Rattle.hydro_tables.proofs.FigureWidths.{multiple_narrow}
use Rattle.hydro_tables.proofs.figures.tpc_of.Goals as goal

pub returns-clause-contains : goal.returns-clause-contains
returns-clause-contains c a h =
    let density : SFits w128 c.from.result = record { sfits = c.from.type_inv } in
    rw (to_z-of_z w128 c.from.result density ∙ c.from.ensures) at (c.over_whole.ensures.contains _ (c.times_whole.ensures.contains a h))

pub returns-clause-narrow : goal.returns-clause-narrow
returns-clause-narrow c =
    let density : SFits w128 c.from.result = record { sfits = c.from.type_inv } in
    let times = rw (to_z-of_z w128 c.from.result density ∙ c.from.ensures) at c.times_whole.ensures.width in
    multiple_narrow c.args.area c.over_whole.result c.times_whole.result.lo c.times_whole.result.hi c.args.water.now.density (10 ^ 11) (omega arith) times c.over_whole.ensures.width
