use Rattle.std.proofs.Common.{subst, pos, ◌-ℤ◌, arith}
use Rattle.std.proofs.lemmas.Int.{ints, to_z-of_z}
use Rattle.std.specs.Int.{w64}
use mir.Val.{SFits}
use Rattle.exact_algebra.proofs.Fraction.{Fraction}
use Rattle.exact_algebra.proofs.Span.{ContainsFraction}
use Rattle.hull_model.proofs.Magnitudes.{fits_64}
use Rattle.flux_moments.specs.Planes.{cosine, sine}
use Rattle.flux_moments.proofs.Heights.{cosine_ends, sine_ends, cosine_contained, sine_contained}
use Rattle.dynamic_lever.proofs.CentreLaws.{side_is, opposite_is}
use Rattle.dynamic_lever.proofs.centre.side_of_centre.Goals as goal

pub weighed-requires-clause-up : goal.weighed-requires-clause-up
weighed-requires-clause-up c = sine_ends c.args.bracket.now

pub weighed-requires-clause-aside : goal.weighed-requires-clause-aside
weighed-requires-clause-aside c = cosine_ends c.args.bracket.now

pub returns-clause-contains : goal.returns-clause-contains
returns-clause-contains c plane side direction e =
    let across : SFits w64 c.args.across = c.ranges.across in
    let turned : SFits w64 (pos 0 -ℤ c.args.across) = fits_64 _ (omega (arith, ints, c.requires.across, c.args.loading.now.limits.across, c.args.loading.now.limits.most)) in
    let weighed = simp to_z-of_z at (c.weighed.ensures.contains (sine plane) (cosine plane) (sine_contained c.args.bracket.now plane direction) (cosine_contained c.args.bracket.now plane direction)) in
    subst (λ (x : Fraction). ContainsFraction 20 c.weighed.result.lo c.weighed.result.hi x) (side_is c.args.loading.now plane side (pos 0 -ℤ c.args.across) (opposite_is c.args.across _ e)) weighed
