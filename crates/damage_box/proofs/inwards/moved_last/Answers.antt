use Rattle.std.proofs.Common.{inr}
use Rattle.std.proofs.lemmas.Int.{to_z-of_z}
use Rattle.damage_box.proofs.Moves as Moves
use Rattle.damage_box.proofs.inwards.moved_last.Goals as goal

pub columns-requires-clause-signs : goal.columns-requires-clause-signs
columns-requires-clause-signs g c =
    let lim = c.requires.limits in
    let a = Moves.level_fits c.args.at.a lim.a_level in
    let f = Moves.level_fits c.args.at.f lim.f_level in
    let up = Moves.above_fits c.args.at.a lim.a_level in
    let down = Moves.below_fits c.args.at.f lim.f_level in
    let p = simp (to_z-of_z, a, f, up) at c.is_last_kept.ensures.pass in
    simp (to_z-of_z, a, f, up) (record { last = p c.if-is_last_kept.true; first = Moves.first_later (g.met.F.Floats.rises c.args.floats.now) Moves.above_itself c.requires.signs.first })

pub returns-else-is_last_kept-clause-none : goal.returns-else-is_last_kept-clause-none
returns-else-is_last_kept-clause-none g c =
    let lim = c.requires.limits in
    let a = Moves.level_fits c.args.at.a lim.a_level in
    let f = Moves.level_fits c.args.at.f lim.f_level in
    let up = Moves.above_fits c.args.at.a lim.a_level in
    let down = Moves.below_fits c.args.at.f lim.f_level in
    let p = simp (to_z-of_z, a, f, up) at c.is_last_kept.ensures.fail in
    λ _. inr (p c.if-is_last_kept.false)
