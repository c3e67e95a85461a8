use Rattle.std.proofs.Common.{inr}
use Rattle.std.proofs.lemmas.Int.{to_z-of_z}
use Rattle.damage_box.proofs.Moves as Moves
use Rattle.damage_box.proofs.inwards.moved_first.Goals as goal

pub columns-requires-clause-signs : goal.columns-requires-clause-signs
columns-requires-clause-signs g c =
    let lim = c.requires.limits in
    let a = Moves.level_fits c.args.at.a lim.a_level in
    let f = Moves.level_fits c.args.at.f lim.f_level in
    let up = Moves.above_fits c.args.at.a lim.a_level in
    let down = Moves.below_fits c.args.at.f lim.f_level in
    let p = simp (to_z-of_z, a, f, down) at c.first_kept.ensures.pass in
    simp (to_z-of_z, a, f, down) (record { last = Moves.last_earlier (g.met.F.Floats.rises c.args.floats.now) Moves.below_itself c.requires.signs.last; first = p c.if-first_kept.true })

pub returns-else-first_kept-clause-none : goal.returns-else-first_kept-clause-none
returns-else-first_kept-clause-none g c =
    let lim = c.requires.limits in
    let a = Moves.level_fits c.args.at.a lim.a_level in
    let f = Moves.level_fits c.args.at.f lim.f_level in
    let up = Moves.above_fits c.args.at.a lim.a_level in
    let down = Moves.below_fits c.args.at.f lim.f_level in
    let p = simp (to_z-of_z, a, f, down) at c.first_kept.ensures.fail in
    λ _. inr (p c.if-first_kept.false)
