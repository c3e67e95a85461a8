use Rattle.std.proofs.Common.{subst, pos, ◌*ℤ◌, ◌^◌, ◌*◌, arith}
use Rattle.std.proofs.lemmas.Int.{ints, to_z-of_z}
use Rattle.std.specs.Int.{w128}
use mir.Val.{SFits}
use Rattle.exact_algebra.proofs.Fraction.{Fraction}
use Rattle.exact_algebra.proofs.Span.{ContainsFraction}
use Rattle.hull_model.proofs.Magnitudes.{fits_128}
use Rattle.dynamic_lever.proofs.Displaced.{quotient_is, quotient_narrow}
use Rattle.dynamic_lever.proofs.Ends.{at_most_wider, below_at_most, quotient_ends, multiple_below, volume_ends}
use Rattle.dynamic_lever.proofs.quotient.over_volume.Goals as goal

pub times_whole-requires : goal.times_whole-requires
times_whole-requires c =
    let density : SFits w128 c.from.result = record { sfits = c.from.type_inv } in
    let first = quotient_ends (2 ^ 114) 1000 (omega arith) (at_most_wider (2 ^ 113) (2 ^ 114 * 1000) (omega arith) (below_at_most 113 c.requires)) c.over_whole.ensures.ends in
    (omega arith, simp to_z-of_z (rw c.from.ensures (multiple_below (2 ^ 114) 2000 126 (pos c.args.water.now.density) (omega arith) first c.args.water.now.limits.heaviest)))

pub returns-clause-contains : goal.returns-clause-contains
returns-clause-contains c m h =
    let mass : SFits w128 c.from-divisor.result = record { sfits = c.from-divisor.type_inv } in
    let density : SFits w128 c.from.result = record { sfits = c.from.type_inv } in
    let divisor : SFits w128 (c.from-divisor.result *ℤ pos 1000000) = fits_128 _ (omega (arith, ints, c.from-divisor.ensures, c.args.loading.now.limits.most)) in
    let quotient = rw (c.from.ensures, c.from-divisor.ensures) at (simp to_z-of_z at (c.over_whole-2.ensures.contains _ (c.times_whole.ensures.contains _ (c.over_whole.ensures.contains m h)))) in
    subst (λ (x : Fraction). ContainsFraction 20 c.over_whole-2.result.lo c.over_whole-2.result.hi x) (quotient_is c.args.loading.now c.args.water.now m) quotient

pub returns-clause-narrow : goal.returns-clause-narrow
returns-clause-narrow c w h =
    let mass : SFits w128 c.from-divisor.result = record { sfits = c.from-divisor.type_inv } in
    let density : SFits w128 c.from.result = record { sfits = c.from.type_inv } in
    let divisor : SFits w128 (c.from-divisor.result *ℤ pos 1000000) = fits_128 _ (omega (arith, ints, c.from-divisor.ensures, c.args.loading.now.limits.most)) in
    quotient_narrow c.args.loading.now c.args.water.now c.args.integral.lo c.args.integral.hi c.over_whole.result.lo c.over_whole.result.hi c.times_whole.result.lo c.times_whole.result.hi c.over_whole-2.result.lo c.over_whole-2.result.hi
    c.over_whole.ensures.width (rw c.from.ensures at (simp to_z-of_z at c.times_whole.ensures.width)) (rw c.from-divisor.ensures at (simp to_z-of_z at c.over_whole-2.ensures.width)) w h

pub returns-clause-ends : goal.returns-clause-ends
returns-clause-ends c most h =
    let mass : SFits w128 c.from-divisor.result = record { sfits = c.from-divisor.type_inv } in
    let density : SFits w128 c.from.result = record { sfits = c.from.type_inv } in
    let divisor : SFits w128 (c.from-divisor.result *ℤ pos 1000000) = fits_128 _ (omega (arith, ints, c.from-divisor.ensures, c.args.loading.now.limits.most)) in
    volume_ends most c.args.water.now.density c.args.loading.now.mass c.args.water.now.limits.heaviest c.args.loading.now.limits.some h
    c.over_whole.ensures.ends (rw c.from.ensures at (simp to_z-of_z at c.times_whole.ensures.ends)) (rw c.from-divisor.ensures at (simp to_z-of_z at c.over_whole-2.ensures.ends))
