use Rattle.std.proofs.lemmas.Int.{to_z-of_z}
use Rattle.damage_box.specs.Balance.{AreLimits}
use Rattle.damage_box.proofs.Moves as Moves
use Rattle.damage_box.proofs.draft_box.narrowed_box.Goals as goal

pub narrowed-back-requires-clause-limits : goal.narrowed-back-requires-clause-limits
narrowed-back-requires-clause-limits g c =
    let lim : AreLimits c.args.fore.a c.args.fore.f c.args.aft.a c.args.aft.f = record { a_level = c.requires.fore_a; f_level = c.requires.fore_f; most_level = c.requires.aft_a; least_level = c.requires.aft_f; a_to = c.requires.a_order; f_from = c.requires.f_order } in
    let i = c.narrowed-front.ensures.inward in
    let la = Moves.level_fits c.args.aft.a c.requires.aft_a in
    let lf = Moves.level_fits c.args.aft.f c.requires.aft_f in
    let fa = Moves.level_fits c.narrowed-front.result.a (Moves.level_a lim i) in
    let ff = Moves.level_fits c.narrowed-front.result.f (Moves.level_f lim i) in
    simp (to_z-of_z, la, lf, fa, ff) (Moves.back_limits lim i)

pub narrowed-back-requires-clause-signs : goal.narrowed-back-requires-clause-signs
narrowed-back-requires-clause-signs g c =
    let lim : AreLimits c.args.fore.a c.args.fore.f c.args.aft.a c.args.aft.f = record { a_level = c.requires.fore_a; f_level = c.requires.fore_f; most_level = c.requires.aft_a; least_level = c.requires.aft_f; a_to = c.requires.a_order; f_from = c.requires.f_order } in
    let i = c.narrowed-front.ensures.inward in
    let la = Moves.level_fits c.args.aft.a c.requires.aft_a in
    let lf = Moves.level_fits c.args.aft.f c.requires.aft_f in
    let fa = Moves.level_fits c.narrowed-front.result.a (Moves.level_a lim i) in
    let ff = Moves.level_fits c.narrowed-front.result.f (Moves.level_f lim i) in
    simp (to_z-of_z, la, lf) c.requires.aft_signs

pub returns : goal.returns
returns g c =
    let lim : AreLimits c.args.fore.a c.args.fore.f c.args.aft.a c.args.aft.f = record { a_level = c.requires.fore_a; f_level = c.requires.fore_f; most_level = c.requires.aft_a; least_level = c.requires.aft_f; a_to = c.requires.a_order; f_from = c.requires.f_order } in
    let i = c.narrowed-front.ensures.inward in
    let la = Moves.level_fits c.args.aft.a c.requires.aft_a in
    let lf = Moves.level_fits c.args.aft.f c.requires.aft_f in
    let fa = Moves.level_fits c.narrowed-front.result.a (Moves.level_a lim i) in
    let ff = Moves.level_fits c.narrowed-front.result.f (Moves.level_f lim i) in
    let k = simp (to_z-of_z, la, lf, fa, ff) at c.narrowed-back.ensures.inward in
    let s = simp (to_z-of_z, la, lf, fa, ff) at c.narrowed-back.ensures.sharp in
    let m = Moves.back_limits lim i in
    let ba = Moves.level_fits c.narrowed-back.result.a (Moves.level_a m k) in
    let bf = Moves.level_fits c.narrowed-back.result.f (Moves.level_f m k) in
    simp (to_z-of_z, fa, ff, ba, bf) (Moves.box i c.narrowed-front.ensures.sharp k s)

pub invariant_of-result : goal.invariant_of-result
invariant_of-result g c =
    let lim : AreLimits c.args.fore.a c.args.fore.f c.args.aft.a c.args.aft.f = record { a_level = c.requires.fore_a; f_level = c.requires.fore_f; most_level = c.requires.aft_a; least_level = c.requires.aft_f; a_to = c.requires.a_order; f_from = c.requires.f_order } in
    let i = c.narrowed-front.ensures.inward in
    let la = Moves.level_fits c.args.aft.a c.requires.aft_a in
    let lf = Moves.level_fits c.args.aft.f c.requires.aft_f in
    let fa = Moves.level_fits c.narrowed-front.result.a (Moves.level_a lim i) in
    let ff = Moves.level_fits c.narrowed-front.result.f (Moves.level_f lim i) in
    let k = simp (to_z-of_z, la, lf, fa, ff) at c.narrowed-back.ensures.inward in
    let m = Moves.back_limits lim i in
    let ba = Moves.level_fits c.narrowed-back.result.a (Moves.level_a m k) in
    let bf = Moves.level_fits c.narrowed-back.result.f (Moves.level_f m k) in
    record { levels = simp (to_z-of_z, fa, ff, ba, bf) (Moves.levels (Moves.level_a lim i) (Moves.level_f m k) (Moves.level_a m k) (Moves.level_f lim i) k.f_from k.a_to) }
