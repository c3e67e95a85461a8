use Rattle.std.proofs.lemmas.Int.{to_z-of_z}
use mir.Syntax.{w64}
use mir.Val.{SFits}
use Rattle.damage_box.proofs.Moves as Moves
use Rattle.damage_box.proofs.Apart as Apart
use Rattle.damage_box.proofs.draft_box.box_from.Goals as goal

pub narrowed_box-requires-clause-fore_signs : goal.narrowed_box-requires-clause-fore_signs
narrowed_box-requires-clause-fore_signs g c =
    let la = Moves.level_fits c.args.fore.a c.requires.fore_a in
    let lf = Moves.level_fits c.args.fore.f c.requires.fore_f in
    let fa = Moves.level_fits c.args.aft.a c.requires.aft_a in
    let ff = Moves.level_fits c.args.aft.f c.requires.aft_f in
    let r = g.met.F.Floats.rises c.args.floats.now in
    simp (to_z-of_z, la, lf) (Apart.signs c.requires.fore_start)

pub narrowed_box-requires-clause-aft_signs : goal.narrowed_box-requires-clause-aft_signs
narrowed_box-requires-clause-aft_signs g c =
    let la = Moves.level_fits c.args.fore.a c.requires.fore_a in
    let lf = Moves.level_fits c.args.fore.f c.requires.fore_f in
    let fa = Moves.level_fits c.args.aft.a c.requires.aft_a in
    let ff = Moves.level_fits c.args.aft.f c.requires.aft_f in
    let r = g.met.F.Floats.rises c.args.floats.now in
    let at_a : SFits w64 c.at_least.result = record { sfits = c.at_least.type_inv } in
    let at_f : SFits w64 c.at_most.result = record { sfits = c.at_most.type_inv } in
    let a = simp (to_z-of_z, la, ff) at c.at_least.ensures.same in
    let f = simp (to_z-of_z, lf, fa) at c.at_most.ensures.same in
    simp (to_z-of_z, at_a, at_f) (Apart.signs_as (λ stations is. f (Apart.f_order stations is r c.requires.fore_start c.requires.aft_start)) (λ stations is. a (Apart.a_order stations is r c.requires.fore_start c.requires.aft_start)) (Apart.signs c.requires.aft_start))
