use Rattle.std.proofs.Common.{◌*◌, ◌^◌, ◌<◌, ◌≤◌, ℕ, pos, ◌*ℤ◌, arith}
use Rattle.std.proofs.lemmas.Int.{ints, to_z-of_z}
use Rattle.std.specs.Int.{w128}
use mir.Val.{SFits}
use Rattle.hull_model.proofs.Magnitudes.{fits_128}
use Rattle.hydro_tables.proofs.MomentEnds.{moment_ends}
use Rattle.hydro_tables.proofs.FigureWidths.{multiple_narrow}
use Rattle.hydro_tables.proofs.figures.mct_of.Goals as goal

pub returns-in-Some-clause-contains : goal.returns-in-Some-clause-contains
returns-in-Some-clause-contains c i h =
    let density : SFits w128 c.from.result = record { sfits = c.from.type_inv } in
    let length : SFits w128 c.from-divisor.result = record { sfits = c.from-divisor.type_inv } in
    let divisor : SFits w128 (pos 100000000000000 *ℤ c.from-divisor.result) = fits_128 _ (omega (arith, ints, c.from-divisor.ensures, c.args.water.now.limits.longest)) in
    rw (c.from.ensures, c.from-divisor.ensures) at (simp to_z-of_z at (c.over_whole.ensures.contains _ (c.times_whole-moment.ensures.contains i h)))

pub returns-in-Some-clause-ends : goal.returns-in-Some-clause-ends
returns-in-Some-clause-ends c =
    let density : SFits w128 c.from.result = record { sfits = c.from.type_inv } in
    let length : SFits w128 c.from-divisor.result = record { sfits = c.from-divisor.type_inv } in
    let divisor : SFits w128 (pos 100000000000000 *ℤ c.from-divisor.result) = fits_128 _ (omega (arith, ints, c.from-divisor.ensures, c.args.water.now.limits.longest)) in
    let times = rw c.from.ensures at (simp to_z-of_z at c.times_whole-moment.ensures.ends) in
    let ends = rw c.from-divisor.ensures at (simp to_z-of_z at c.over_whole.ensures.ends) in
    moment_ends (pos c.args.water.now.density) c.args.water.now.length_bp (omega (arith, c.args.water.now.limits.heaviest)) c.args.water.now.limits.some_length c.requires times ends

pub returns-in-Some-clause-narrow : goal.returns-in-Some-clause-narrow
returns-in-Some-clause-narrow c =
    let density : SFits w128 c.from.result = record { sfits = c.from.type_inv } in
    let length : SFits w128 c.from-divisor.result = record { sfits = c.from-divisor.type_inv } in
    let divisor : SFits w128 (pos 100000000000000 *ℤ c.from-divisor.result) = fits_128 _ (omega (arith, ints, c.from-divisor.ensures, c.args.water.now.limits.longest)) in
    let times = rw c.from.ensures at (simp to_z-of_z at c.times_whole-moment.ensures.width) in
    let over = rw c.from-divisor.ensures at (simp to_z-of_z at c.over_whole.ensures.width) in
    multiple_narrow c.args.inertia c.over_whole.result c.times_whole-moment.result.lo c.times_whole-moment.result.hi c.args.water.now.density (10 ^ 14 * c.args.water.now.length_bp) (some c.args.water.now.length_bp c.args.water.now.limits.some_length) times over
  where
    some : (length : ℕ) → 1 ≤ length → 0 < 10 ^ 14 * length
    some length h = omega (arith, h)
