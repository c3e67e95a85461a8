use Rattle.std.proofs.Common.{refl, ◌^◌, ◌-ℤ◌, unsigned_abs, subst, w64, arith}
use Rattle.std.proofs.lemmas.Int.{to_z-of_z}
use mir.Val.{SFits}
use Rattle.exact_algebra.proofs.Fraction.{Fraction, ◌⊗◌}
use Rattle.exact_algebra.proofs.Products.{contains_rescaled}
use Rattle.exact_algebra.proofs.Span.{ContainsFraction}
use Rattle.exact_algebra.proofs.Whole.{whole}
use Rattle.outward_interval.specs.Laws.{difference_contains}
use Rattle.outward_interval.proofs.Widths.{rescaled-width}
use Rattle.hull_model.specs.Waterplane.{position_of}
use Rattle.flux_moments.specs.Planes.{cosine, sine}
use Rattle.flux_moments.proofs.Heights.{cosine_ends, sine_ends, cosine_contained, sine_contained, breadth_size, height_size, breadth_fits, height_fits, side_is, difference_at_most, rescaled_at_most}
use Rattle.flux_moments.proofs.BoxWidths.{multiple-near, side-narrow, side-near}
use Rattle.flux_moments.proofs.corner.side_of.Goals as goal

pub of-along-requires : goal.of-along-requires
of-along-requires c =
    let z : SFits w64 c.args.node.z = height_fits c.args.node c.requires in
    record { part = sine_ends c.args.bracket.now; n = simp to_z-of_z (omega (arith, height_size c.args.node c.requires)) }

pub of-across-requires : goal.of-across-requires
of-across-requires c =
    let y : SFits w64 c.args.node.y = breadth_fits c.args.node c.requires in
    record { part = cosine_ends c.args.bracket.now; n = simp to_z-of_z (omega (arith, breadth_size c.args.node c.requires)) }

pub returns-clause-contains : goal.returns-clause-contains
returns-clause-contains c plane h =
    let along = c.of-along in
    let across = c.of-across in
    let z : SFits w64 c.args.node.z = height_fits c.args.node c.requires in
    let y : SFits w64 c.args.node.y = breadth_fits c.args.node c.requires in
    subst (λ (x : Fraction). ContainsFraction 20 c.minus.result.lo c.minus.result.hi x) (side_is plane (position_of c.args.node))
    (contains_rescaled {F = 40} {G = 20}
    (difference_contains 40 along.result.lo along.result.hi across.result.lo across.result.hi (along.result.lo -ℤ across.result.hi) (along.result.hi -ℤ across.result.lo)
    (sine plane ⊗ whole c.args.node.z) (cosine plane ⊗ whole c.args.node.y) (record { low = refl; high = refl })
    (simp to_z-of_z at (along.ensures.contains (sine plane) (sine_contained c.args.bracket.now plane h)))
    (simp to_z-of_z at (across.ensures.contains (cosine plane) (cosine_contained c.args.bracket.now plane h))))
    c.minus.ensures.low c.minus.ensures.high)

pub returns-clause-ends : goal.returns-clause-ends
returns-clause-ends c =
    let along = c.of-along in
    let across = c.of-across in
    let z : SFits w64 c.args.node.z = height_fits c.args.node c.requires in
    let y : SFits w64 c.args.node.y = breadth_fits c.args.node c.requires in
    rescaled_at_most (along.result.lo -ℤ across.result.hi) (along.result.hi -ℤ across.result.lo) c.minus.result.lo c.minus.result.hi
    (difference_at_most (unsigned_abs c.args.node.z) (unsigned_abs c.args.node.y) along.result.lo along.result.hi across.result.lo across.result.hi
    (along.result.lo -ℤ across.result.hi) (along.result.hi -ℤ across.result.lo) (height_size c.args.node c.requires) (breadth_size c.args.node c.requires)
    (simp to_z-of_z at along.ensures.ends) (simp to_z-of_z at across.ensures.ends) (record { low = refl; high = refl }))
    c.minus.result.ordered c.minus.ensures

pub returns-clause-narrow : goal.returns-clause-narrow
returns-clause-narrow c e h k =
    let along = c.of-along in
    let across = c.of-across in
    let z : SFits w64 c.args.node.z = height_fits c.args.node c.requires in
    let y : SFits w64 c.args.node.y = breadth_fits c.args.node c.requires in
    side-narrow (unsigned_abs c.args.node.z) (unsigned_abs c.args.node.y) along.result.lo along.result.hi across.result.lo across.result.hi
    (along.result.lo -ℤ across.result.hi) (along.result.hi -ℤ across.result.lo) c.minus.result.lo c.minus.result.hi
    (rescaled-width (2 ^ 40) (2 ^ 20) (along.result.lo -ℤ across.result.hi) (along.result.hi -ℤ across.result.lo) c.minus.result.lo c.minus.result.hi c.minus.ensures) c.minus.ensures
    e (record { low = refl; high = refl }) (simp to_z-of_z at (along.ensures.narrow e k)) (simp to_z-of_z at (across.ensures.narrow e h))

pub returns-clause-near : goal.returns-clause-near
returns-clause-near c =
    let along = c.of-along in
    let across = c.of-across in
    let z : SFits w64 c.args.node.z = height_fits c.args.node c.requires in
    let y : SFits w64 c.args.node.y = breadth_fits c.args.node c.requires in
    side-near (unsigned_abs c.args.node.z) (unsigned_abs c.args.node.y) along.result.lo along.result.hi across.result.lo across.result.hi
    (along.result.lo -ℤ across.result.hi) (along.result.hi -ℤ across.result.lo) c.minus.result.lo c.minus.result.hi
    (rescaled-width (2 ^ 40) (2 ^ 20) (along.result.lo -ℤ across.result.hi) (along.result.hi -ℤ across.result.lo) c.minus.result.lo c.minus.result.hi c.minus.ensures) c.minus.ensures
    (record { low = refl; high = refl }) (multiple-near c.args.node.z (simp to_z-of_z at along.ensures.ends)) (multiple-near c.args.node.y (simp to_z-of_z at across.ensures.ends))
