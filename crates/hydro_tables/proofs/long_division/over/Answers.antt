use Rattle.std.proofs.Common.{arith}
use Rattle.std.proofs.lemmas.Bool.{false≢true}
use Rattle.std.proofs.lemmas.Int.{to_z-of_z}
use Rattle.std.specs.Int.{w128}
use mir.Val.{SFits}
use Rattle.hull_model.proofs.Magnitudes.{fits_128}
use Rattle.outward_interval.proofs.Divisors.{quotient_ends-ordered}
use Rattle.hydro_tables.proofs.long_division.over.Goals as goal

pub unreachable-requires : goal.unreachable-requires
unreachable-requires c =
    let from : SFits w128 c.ends_over-from.result.0 = fits_128 _ (omega (arith, c.ends_over-from.ensures.low)) in
    let to : SFits w128 c.ends_over-from.result.1 = fits_128 _ (omega (arith, c.ends_over-from.ensures.high)) in
    let ordered = quotient_ends-ordered 20 c.args.moment.lo c.args.moment.hi c.args.divisor.lo c.args.divisor.hi c.ends_over-from.result.0 c.ends_over-from.result.1
    c.requires.divisor c.args.divisor.ordered c.args.moment.ordered c.ends_over-from.ensures.ends in
    false≢true (c.in-None.ensures.some.1 (simp to_z-of_z (record { ordered = ordered; low = c.ends_over-from.ensures.low; high = c.ends_over-from.ensures.high; scaled = omega arith })))
