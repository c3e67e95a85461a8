use Rattle.std.proofs.Common.{pos, w64, ◌-◌, length}
use Rattle.std.proofs.lemmas.Int.{to_z-of_z}
use Rattle.std.specs.Prelude.{get_or}
use mir.Val.{SFits}
use Rattle.hull_model.specs.declared.point.Point.{Point}
use Rattle.floodable_length.proofs.Levels.{last-is_top, last-fits}
use Rattle.floodable_length.proofs.margin_line.top.Goals as goal

pub returns-in-len1-up-clause-value : goal.returns-in-len1-up-clause-value
returns-in-len1-up-clause-value c =
    let points = c.args.points.now in
    let other : Point = record { y = pos 0; z = pos 0 } in
    let fits : SFits w64 (get_or points (length points - 1) other).z = last-fits points other c.in-len1-up.len_at_least c.requires in
    simp to_z-of_z (last-is_top points other c.in-len1-up.len_at_least)
