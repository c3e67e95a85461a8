use Rattle.std.proofs.Common.{refl, pos, ◌^◌, ◌+ℤ◌, unsigned_abs, subst, w64, arith}
use Rattle.std.proofs.lemmas.Int.{to_z-of_z}
use mir.Val.{SFits}
use Rattle.exact_algebra.proofs.Fraction.{Fraction, ◌⊗◌}
use Rattle.exact_algebra.proofs.Products.{contains_rescaled}
use Rattle.exact_algebra.proofs.Span.{ContainsFraction}
use Rattle.exact_algebra.proofs.Whole.{whole}
use Rattle.outward_interval.specs.Laws.{sum_contains}
use Rattle.outward_interval.proofs.Widths.{rescaled-width}
use Rattle.hull_model.specs.Waterplane.{position_of}
use Rattle.flux_moments.specs.Planes.{cosine, sine}
use Rattle.flux_moments.proofs.Heights.{cosine_ends, sine_ends, cosine_contained, sine_contained, breadth_size, height_size, breadth_fits, height_fits, height_is, sum_at_most, rescaled_at_most}
use Rattle.flux_moments.proofs.BoxWidths.{multiple-near, height-narrow, height-near}
use Rattle.flux_moments.proofs.LevelEnds.{height_same}
use Rattle.flux_moments.proofs.corner.height_of.Goals as goal

pub of-along-requires : goal.of-along-requires
of-along-requires c =
    let z : SFits w64 c.args.node.z = height_fits c.args.node c.requires in
    record { part = cosine_ends c.args.bracket.now; n = simp to_z-of_z (omega (arith, height_size c.args.node c.requires)) }

pub of-across-requires : goal.of-across-requires
of-across-requires c =
    let y : SFits w64 c.args.node.y = breadth_fits c.args.node c.requires in
    record { part = sine_ends c.args.bracket.now; n = simp to_z-of_z (omega (arith, breadth_size c.args.node c.requires)) }

pub returns-clause-contains : goal.returns-clause-contains
returns-clause-contains c plane h =
    let along = c.of-along in
    let across = c.of-across in
    let z : SFits w64 c.args.node.z = height_fits c.args.node c.requires in
    let y : SFits w64 c.args.node.y = breadth_fits c.args.node c.requires in
    subst (λ (x : Fraction). ContainsFraction 20 c.plus.result.lo c.plus.result.hi x) (height_is plane (position_of c.args.node))
    (contains_rescaled {F = 40} {G = 20}
    (sum_contains 40 along.result.lo along.result.hi across.result.lo across.result.hi (along.result.lo +ℤ across.result.lo) (along.result.hi +ℤ across.result.hi)
    (cosine plane ⊗ whole c.args.node.z) (sine plane ⊗ whole c.args.node.y) (record { low = refl; high = refl })
    (simp to_z-of_z at (along.ensures.contains (cosine plane) (cosine_contained c.args.bracket.now plane h)))
    (simp to_z-of_z at (across.ensures.contains (sine plane) (sine_contained c.args.bracket.now plane h))))
    c.plus.ensures.low c.plus.ensures.high)

pub returns-clause-ends : goal.returns-clause-ends
returns-clause-ends c =
    let along = c.of-along in
    let across = c.of-across in
    let z : SFits w64 c.args.node.z = height_fits c.args.node c.requires in
    let y : SFits w64 c.args.node.y = breadth_fits c.args.node c.requires in
    rescaled_at_most (along.result.lo +ℤ across.result.lo) (along.result.hi +ℤ across.result.hi) c.plus.result.lo c.plus.result.hi
    (sum_at_most (unsigned_abs c.args.node.z) (unsigned_abs c.args.node.y) along.result.lo along.result.hi across.result.lo across.result.hi
    (along.result.lo +ℤ across.result.lo) (along.result.hi +ℤ across.result.hi) (height_size c.args.node c.requires) (breadth_size c.args.node c.requires)
    (simp to_z-of_z at along.ensures.ends) (simp to_z-of_z at across.ensures.ends) (record { low = refl; high = refl }))
    c.plus.result.ordered c.plus.ensures

pub returns-clause-narrow : goal.returns-clause-narrow
returns-clause-narrow c e h k =
    let along = c.of-along in
    let across = c.of-across in
    let z : SFits w64 c.args.node.z = height_fits c.args.node c.requires in
    let y : SFits w64 c.args.node.y = breadth_fits c.args.node c.requires in
    height-narrow (unsigned_abs c.args.node.z) (unsigned_abs c.args.node.y) along.result.lo along.result.hi across.result.lo across.result.hi
    (along.result.lo +ℤ across.result.lo) (along.result.hi +ℤ across.result.hi) c.plus.result.lo c.plus.result.hi
    (rescaled-width (2 ^ 40) (2 ^ 20) (along.result.lo +ℤ across.result.lo) (along.result.hi +ℤ across.result.hi) c.plus.result.lo c.plus.result.hi c.plus.ensures) c.plus.ensures
    e (record { low = refl; high = refl }) (simp to_z-of_z at (along.ensures.narrow e h)) (simp to_z-of_z at (across.ensures.narrow e k))

pub returns-clause-near : goal.returns-clause-near
returns-clause-near c =
    let along = c.of-along in
    let across = c.of-across in
    let z : SFits w64 c.args.node.z = height_fits c.args.node c.requires in
    let y : SFits w64 c.args.node.y = breadth_fits c.args.node c.requires in
    height-near (unsigned_abs c.args.node.z) (unsigned_abs c.args.node.y) along.result.lo along.result.hi across.result.lo across.result.hi
    (along.result.lo +ℤ across.result.lo) (along.result.hi +ℤ across.result.hi) c.plus.result.lo c.plus.result.hi
    (rescaled-width (2 ^ 40) (2 ^ 20) (along.result.lo +ℤ across.result.lo) (along.result.hi +ℤ across.result.hi) c.plus.result.lo c.plus.result.hi c.plus.ensures) c.plus.ensures
    (record { low = refl; high = refl }) (multiple-near c.args.node.z (simp to_z-of_z at along.ensures.ends)) (multiple-near c.args.node.y (simp to_z-of_z at across.ensures.ends))

pub returns-clause-upright : goal.returns-clause-upright
returns-clause-upright c one none =
    let along = c.of-along in
    let across = c.of-across in
    let z : SFits w64 c.args.node.z = height_fits c.args.node c.requires in
    let y : SFits w64 c.args.node.y = breadth_fits c.args.node c.requires in
    height_same c.args.node.z c.args.node.y {low = along.result.lo +ℤ across.result.lo} {high = along.result.hi +ℤ across.result.hi}
    (simp to_z-of_z at (along.ensures.same (pos (2 ^ 40)) one.0 one.1)) (simp to_z-of_z at (across.ensures.same (pos 0) none.0 none.1))
    (record { low = refl; high = refl }) c.plus.ensures
