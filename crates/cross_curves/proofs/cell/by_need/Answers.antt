use Rattle.std.proofs.Common.{◌∙◌, refl, subst, arith}
use Rattle.std.proofs.lemmas.Int.{to_z-of_z}
use Rattle.std.specs.Int.{w128}
use mir.Val.{SFits}
use Rattle.exact_algebra.proofs.Fraction.{Fraction}
use Rattle.exact_algebra.proofs.Span.{ContainsFraction}
use Rattle.cross_curves.proofs.ByNeed.{quotient_is, quotient-narrow, quotient-ends, times-fit, some_num}
use Rattle.cross_curves.proofs.cell.by_need.Goals as goal

pub times_whole-requires : goal.times_whole-requires
times_whole-requires c =
    let den : SFits w128 c.den.result = record { sfits = c.den.type_inv } in
    (omega arith, times-fit c.args.need.now c.requires.need _ c.args.need.now.num (to_z-of_z w128 c.den.result den ∙ c.den.ensures) refl c.args.moment.lo c.args.moment.hi c.requires.ends)

pub over_whole-requires : goal.over_whole-requires
over_whole-requires c =
    let num : SFits w128 c.num.result = record { sfits = c.num.type_inv } in
    (omega arith, some_num c.args.need.now c.requires.need c.args.need.now.den _ refl (to_z-of_z w128 c.num.result num ∙ c.num.ensures))

pub returns-clause-contains : goal.returns-clause-contains
returns-clause-contains c x h =
    let den : SFits w128 c.den.result = record { sfits = c.den.type_inv } in
    let num : SFits w128 c.num.result = record { sfits = c.num.type_inv } in
    subst (λ (z : Fraction). ContainsFraction 20 c.over_whole.result.lo c.over_whole.result.hi z)
    (quotient_is c.args.need.now c.requires.need _ _ (to_z-of_z w128 c.den.result den ∙ c.den.ensures) (to_z-of_z w128 c.num.result num ∙ c.num.ensures) x)
    (c.over_whole.ensures.contains _ (c.times_whole.ensures.contains x h))

pub returns-clause-narrow : goal.returns-clause-narrow
returns-clause-narrow c w h =
    let den : SFits w128 c.den.result = record { sfits = c.den.type_inv } in
    let num : SFits w128 c.num.result = record { sfits = c.num.type_inv } in
    quotient-narrow c.args.need.now c.requires.need _ _ (to_z-of_z w128 c.den.result den ∙ c.den.ensures) (to_z-of_z w128 c.num.result num ∙ c.num.ensures) c.times_whole.result.lo
    c.times_whole.result.hi w c.times_whole.ensures.width c.over_whole.ensures.width h

pub returns-clause-ends : goal.returns-clause-ends
returns-clause-ends c big =
    let den : SFits w128 c.den.result = record { sfits = c.den.type_inv } in
    let num : SFits w128 c.num.result = record { sfits = c.num.type_inv } in
    quotient-ends c.args.need.now c.requires.need _ _ (to_z-of_z w128 c.den.result den ∙ c.den.ensures) (to_z-of_z w128 c.num.result num ∙ c.num.ensures) big c.requires.ends c.args.moment.ordered
    c.times_whole.ensures.ends c.over_whole.ensures.ends
