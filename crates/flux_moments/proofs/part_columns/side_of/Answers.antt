use Rattle.std.proofs.Common.{pos, ◌*◌, ◌^◌, subst, arith}
use Rattle.exact_algebra.proofs.Fraction.{Fraction, ◌⊗◌}
use Rattle.exact_algebra.proofs.Span.{ContainsFraction}
use Rattle.outward_interval.specs.Laws.{difference_contains}
use Rattle.flux_moments.specs.Planes.{cosine, sine}
use Rattle.flux_moments.proofs.Heights.{cosine_ends, sine_ends, cosine_contained, sine_contained, side_is, difference_at_most, rescaled_at_most}
use Rattle.exact_algebra.proofs.Whole.{whole}
use Rattle.outward_interval.proofs.Narrow.{narrow-difference}
use Rattle.flux_moments.proofs.BoxWidths.{multiple-near, side-near}
use Rattle.flux_moments.proofs.PartWidths.{turned-narrow, mm-near, part-height-narrow}
use Rattle.flux_moments.proofs.PartCorners.{in_mm, as_it_is, turned_fits, turned_ends, heights_subtract}
use Rattle.flux_moments.proofs.part_columns.side_of.Goals as goal

pub scaled_by-along-requires : goal.scaled_by-along-requires
scaled_by-along-requires c = (omega arith, (omega arith, turned_fits (65535 * 2 ^ 20) (sine_ends c.args.bracket.now) c.args.corner.now.z_ends (omega arith)))

pub scaled_by-across-requires : goal.scaled_by-across-requires
scaled_by-across-requires c = (omega arith, (omega arith, turned_fits (65535 * 2 ^ 20) (cosine_ends c.args.bracket.now) c.args.corner.now.y_ends (omega arith)))

pub sub-requires : goal.sub-requires
sub-requires c =
    let along = in_mm 65535 (turned_ends (65535 * 2 ^ 20) (sine_ends c.args.bracket.now) c.args.corner.now.z_ends c.scaled_by-along.ensures.ends) in
    let across = in_mm 65535 (turned_ends (65535 * 2 ^ 20) (cosine_ends c.args.bracket.now) c.args.corner.now.y_ends c.scaled_by-across.ensures.ends) in
    (omega arith, heights_subtract along across)

pub returns-clause-ends : goal.returns-clause-ends
returns-clause-ends c =
    let along = in_mm 65535 (turned_ends (65535 * 2 ^ 20) (sine_ends c.args.bracket.now) c.args.corner.now.z_ends c.scaled_by-along.ensures.ends) in
    let across = in_mm 65535 (turned_ends (65535 * 2 ^ 20) (cosine_ends c.args.bracket.now) c.args.corner.now.y_ends c.scaled_by-across.ensures.ends) in
    rescaled_at_most c.sub.result.lo c.sub.result.hi c.rescale.result.lo c.rescale.result.hi
    (difference_at_most 65535 65535 c.scaled_by-along.result.lo c.scaled_by-along.result.hi c.scaled_by-across.result.lo c.scaled_by-across.result.hi
    c.sub.result.lo c.sub.result.hi (omega arith) (omega arith) along across c.sub.ensures) c.rescale.result.ordered c.rescale.ensures.ends

pub returns-clause-contains : goal.returns-clause-contains
returns-clause-contains c plane p is h =
    let along = c.scaled_by-along.ensures.contains (sine plane) p.z (sine_contained c.args.bracket.now plane is) h.z in
    let across = c.scaled_by-across.ensures.contains (cosine plane) p.y (cosine_contained c.args.bracket.now plane is) h.y in
    subst (λ (x : Fraction). ContainsFraction 20 c.rescale.result.lo c.rescale.result.hi x) (side_is plane p)
    (c.rescale.ensures.contains _ (difference_contains 40 c.scaled_by-along.result.lo c.scaled_by-along.result.hi c.scaled_by-across.result.lo c.scaled_by-across.result.hi c.sub.result.lo c.sub.result.hi (sine plane ⊗ p.z) (cosine plane ⊗ p.y) c.sub.ensures along across))

pub rescale-requires : goal.rescale-requires
rescale-requires c = (omega arith, (omega arith, (omega arith, as_it_is c.sub.result)))

pub returns-clause-narrow : goal.returns-clause-narrow
returns-clause-narrow c e y z cosine sine extent =
    let b = c.args.bracket.now in
    let corner = c.args.corner.now in
    let along = turned-narrow e (whole (pos z)) c.args.bracket.now.s.lo c.args.bracket.now.s.hi corner.z.lo corner.z.hi c.scaled_by-along.result.lo c.scaled_by-along.result.hi
    c.args.bracket.now.s.ordered corner.z.ordered c.scaled_by-along.ensures.width (sine_ends b) sine extent.z_thin (mm-near z extent.z_ends) in
    let across = turned-narrow e (whole (pos y)) c.args.bracket.now.c.lo c.args.bracket.now.c.hi corner.y.lo corner.y.hi c.scaled_by-across.result.lo c.scaled_by-across.result.hi
    c.args.bracket.now.c.ordered corner.y.ordered c.scaled_by-across.ensures.width (cosine_ends b) cosine extent.y_thin (mm-near y extent.y_ends) in
    part-height-narrow e y z (narrow-difference c.sub.ensures along across) c.rescale.ensures.width

pub returns-clause-near : goal.returns-clause-near
returns-clause-near c y z extent =
    let along = c.scaled_by-along in
    let across = c.scaled_by-across in
    side-near z y along.result.lo along.result.hi across.result.lo across.result.hi
    c.sub.result.lo c.sub.result.hi c.rescale.result.lo c.rescale.result.hi c.rescale.ensures.width c.rescale.ensures.ends
    c.sub.ensures (multiple-near (pos z) (in_mm z (turned_ends (z * 2 ^ 20) (sine_ends c.args.bracket.now) extent.z_ends along.ensures.ends)))
    (multiple-near (pos y) (in_mm y (turned_ends (y * 2 ^ 20) (cosine_ends c.args.bracket.now) extent.y_ends across.ensures.ends)))
