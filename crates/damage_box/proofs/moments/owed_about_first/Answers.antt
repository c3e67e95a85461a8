use Rattle.std.proofs.Common.{subst}
use Rattle.std.specs.Int.{w128}
use Rattle.std.proofs.lemmas.Int.{to_z-of_z}
use mir.Val.{SFits}
use Rattle.exact_algebra.proofs.Fraction.{Fraction}
use Rattle.exact_algebra.proofs.Span.{IsLeastSpanOf}
use Rattle.damage_box.proofs.Balanced as Balanced
use Rattle.damage_box.proofs.moments.owed_about_first.Goals as goal

pub returns-clause-owed : goal.returns-clause-owed
returns-clause-owed c =
    let loading = c.args.loading.now in
    let moment : SFits w128 c.moment_before.result = record { sfits = c.moment_before.type_inv } in
    let value = simp (to_z-of_z, c.ranges.first_x) at c.moment_before.ensures.value in
    let owed = simp (to_z-of_z, moment) at c.owed.ensures.owed in
    subst (λ (x : Fraction). IsLeastSpanOf 20 c.owed.result.lo c.owed.result.hi x) (Balanced.owed_before loading.mass loading.mx c.args.water.now.density c.args.first_x c.moment_before.result loading.limits.some value) owed
