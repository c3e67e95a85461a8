use Rattle.std.proofs.Common.{rules}
use Rattle.std.proofs.lemmas.Int.{to_z-of_z}
use Rattle.std.specs.Int.{w128}
use mir.Val.{SFits}
use Rattle.draft_bracket.proofs.Wholes.{need_against_whole, whole-small}
use Rattle.draft_bracket.proofs.drafts.need_to_whole.Goals as goal

pub times-requires : goal.times-requires
times-requires c =
    let den : SFits w128 c.den.result = record { sfits = c.den.type_inv } in
    simp (to_z-of_z, c.ranges.six, den) (whole-small c.args.six c.args.need.now c.den.result c.requires.six c.den.ensures)

pub returns : goal.returns
returns c = need_against_whole c.args.need.now c.args.six c.cmp.result (search rules)
