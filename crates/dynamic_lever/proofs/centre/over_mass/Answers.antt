use Rattle.std.proofs.Common.{sym, subst, ℤ, unsigned_abs}
use Rattle.std.proofs.lemmas.Int.{to_z-of_z}
use Rattle.std.specs.Int.{w128}
use mir.Val.{SFits}
use Rattle.exact_algebra.proofs.Fraction.{◌⊕◌, ◌⊗◌, inverse}
use Rattle.exact_algebra.proofs.Whole.{whole}
use Rattle.outward_interval.specs.Widths.{units, IsNarrow}
use Rattle.dynamic_lever.proofs.CentreLaws.{over_mass_narrow}
use Rattle.dynamic_lever.proofs.Ends.{over_mass_ends}
use Rattle.dynamic_lever.proofs.centre.over_mass.Goals as goal

pub returns-clause-contains : goal.returns-clause-contains
returns-clause-contains c x h =
    let mass : SFits w128 c.args.mass = c.ranges.mass in
    simp to_z-of_z at (c.over_whole.ensures.contains _ (c.rescale-coarse.ensures.contains x h))

pub returns-clause-narrow : goal.returns-clause-narrow
returns-clause-narrow c w h =
    let mass : SFits w128 c.args.mass = c.ranges.mass in
    subst (λ (z : ℤ). IsNarrow 20 (w ⊗ inverse (whole z) ⊕ units 20 4) c.over_whole.result.lo c.over_whole.result.hi) (sym c.requires.above)
    (over_mass_narrow (unsigned_abs c.args.mass) w c.args.moment.lo c.args.moment.hi c.rescale-coarse.result.lo c.rescale-coarse.result.hi c.over_whole.result.lo c.over_whole.result.hi c.requires.mass c.rescale-coarse.ensures.width (simp to_z-of_z at c.over_whole.ensures.width) h)

pub returns-clause-ends : goal.returns-clause-ends
returns-clause-ends c =
    let mass : SFits w128 c.args.mass = c.ranges.mass in
    over_mass_ends (unsigned_abs c.args.mass) c.requires.mass c.requires.moment c.rescale-coarse.ensures.ends (simp to_z-of_z at c.over_whole.ensures.ends)
