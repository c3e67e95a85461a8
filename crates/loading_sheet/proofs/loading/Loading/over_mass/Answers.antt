use Rattle.std.proofs.Common.{◌∙◌}
use Rattle.std.specs.Int.{w128}
use Rattle.std.proofs.lemmas.Int.{to_z-of_z}
use mir.Val.{SFits}
use Rattle.loading_sheet.proofs.Ratios.{ratio_is}
use Rattle.loading_sheet.proofs.loading.Loading.over_mass.Goals as goal

pub returns : goal.returns
returns c =
    let moment : SFits w128 c.args.moment = c.ranges.moment in
    let mass : SFits w128 c.from.result = record { sfits = c.from.type_inv } in
    let parts = simp to_z-of_z at c.in-Some.ensures.parts in
    ratio_is c.in-Some.ratio c.args.moment c.args.self.now.mass parts.0 (parts.1 ∙ c.from.ensures)
