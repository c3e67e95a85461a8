use Rattle.std.proofs.Common.{rules, ◌*ℤ◌, pos, arith}
use Rattle.std.proofs.lemmas.Bool.{false≢true}
use Rattle.std.proofs.lemmas.Int.{ints, to_z-of_z}
use Rattle.std.specs.Int.{w64, w128}
use mir.Val.{SFits}
use Rattle.hull_model.proofs.Magnitudes.{fits_64}
use Rattle.flux_moments.proofs.Levels.{same_span}
use Rattle.flux_moments.proofs.box_levels.same_levels.Goals as goal

pub unreachable-requires : goal.unreachable-requires
unreachable-requires c =
    let low : SFits w64 c.args.low = c.ranges.low in
    let high : SFits w64 c.args.high = c.ranges.high in
    let z : SFits w64 (c.args.low *ℤ pos 1024) = fits_64 _ (omega (arith, ints, c.requires.low)) in
    let w : SFits w64 (c.args.high *ℤ pos 1024) = fits_64 _ (omega (arith, ints, c.requires.high)) in
    let from : SFits w128 c.from.result = search rules in
    let to : SFits w128 c.from-2.result = search rules in
    let lower = simp to_z-of_z at c.from.ensures in
    let upper = simp to_z-of_z at c.from-2.ensures in
    false≢true (c.in-None.ensures.some.1 (simp to_z-of_z (rw (lower, upper) (same_span c.args.low c.args.high c.requires.order c.requires.low c.requires.high))))
