use Rattle.std.proofs.Common.{refl, rules}
use Rattle.hull_cli.proofs.stability.standing_of.Goals as goal

pub returns-in-Err-clause-stops : goal.returns-in-Err-clause-stops
returns-in-Err-clause-stops c hull is are items loaded =
    let heavy = (c.in-Err.ensures.too_heavy hull is are).0 refl in
    let six = c.in-Err.ensures.six hull is are in
    (c.args.loading.now, loaded, refl, heavy, search rules)
