use Rattle.std.proofs.Common.{rules, ◌*◌, ◌^◌, arith}
use Rattle.std.proofs.lemmas.Int.{to_z-of_z}
use Rattle.std.specs.Int.{w128}
use mir.Val.{SFits}
use Rattle.flux_moments.proofs.Heights.{cosine_ends, sine_ends, cosine_contained, sine_contained}
use Rattle.flux_moments.proofs.strip_sums.whole_strip.Goals as goal

pub turned-requires-clause-part : goal.turned-requires-clause-part
turned-requires-clause-part c = sine_ends c.args.bracket.now

pub turned-requires-2-clause-part : goal.turned-requires-2-clause-part
turned-requires-2-clause-part c = cosine_ends c.args.bracket.now

pub returns-clause-ends : goal.returns-clause-ends
returns-clause-ends c most h =
    let six : SFits w128 c.args.total.six = search rules in
    let x : SFits w128 c.args.total.mx24 = search rules in
    let z : SFits w128 c.args.total.mz24 = search rules in
    record {
      volume = c.quotient.ensures.ends (2 ^ 83) (simp to_z-of_z (omega (arith, c.requires.six)));
      mx = c.quotient-2.ensures.ends (2 ^ 102) (simp to_z-of_z (omega (arith, c.requires.mx24)));
      mv = c.turned.ensures.ends most (simp to_z-of_z (omega (arith, h)));
      mu = c.turned-2.ensures.ends (2 * most) (simp to_z-of_z (omega (arith, h)));
    }

pub returns-clause-mv : goal.returns-clause-mv
returns-clause-mv c plane is =
    let z : SFits w128 c.args.total.mz24 = search rules in
    simp to_z-of_z at (c.turned.ensures.contains _ (sine_contained c.args.bracket.now plane is))

pub returns-clause-mu : goal.returns-clause-mu
returns-clause-mu c plane is =
    let z : SFits w128 c.args.total.mz24 = search rules in
    simp to_z-of_z at (c.turned-2.ensures.contains _ (cosine_contained c.args.bracket.now plane is))

pub returns-clause-mv_width : goal.returns-clause-mv_width
returns-clause-mv_width c e most narrow h =
    let z : SFits w128 c.args.total.mz24 = search rules in
    c.turned.ensures.narrow e most narrow (simp to_z-of_z (omega (arith, h)))

pub returns-clause-mu_width : goal.returns-clause-mu_width
returns-clause-mu_width c e most narrow h =
    let z : SFits w128 c.args.total.mz24 = search rules in
    c.turned-2.ensures.narrow e (2 * most) narrow (simp to_z-of_z (omega (arith, h)))
