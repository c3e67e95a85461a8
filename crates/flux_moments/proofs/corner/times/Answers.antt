use Rattle.std.proofs.Common.{◌≡◌, rules, arith, w64, unsigned_abs}
use Rattle.std.proofs.lemmas.Int.{to_z-of_z}
use Rattle.std.specs.Int.{w128}
use mir.Val.{SFits}
use Rattle.flux_moments.proofs.Heights.{products_below, products_at_most}
use Rattle.outward_interval.proofs.Narrow.{narrow-multiple}
use Rattle.flux_moments.proofs.LevelEnds.{multiple_same}
use Rattle.flux_moments.proofs.corner.times.Goals as goal

pub times_whole-requires : goal.times_whole-requires
times_whole-requires c =
    let n : SFits w64 c.args.n = c.ranges.n in
    let from : SFits w128 c.from.result = search rules in
    let same : c.from.result ≡ c.args.n = simp to_z-of_z at c.from.ensures in
    (omega arith, simp to_z-of_z (rw same (products_below c.args.part.lo c.args.part.hi c.args.n c.requires.part c.requires.n)))

pub returns-clause-ends : goal.returns-clause-ends
returns-clause-ends c =
    let n : SFits w64 c.args.n = c.ranges.n in
    let from : SFits w128 c.from.result = search rules in
    let same : c.from.result ≡ c.args.n = simp to_z-of_z at c.from.ensures in
    products_at_most c.args.part.lo c.args.part.hi c.args.n c.times_whole.result.lo c.times_whole.result.hi c.requires.part
    (rw same at (simp to_z-of_z at c.times_whole.ensures.ends))

pub returns-clause-contains : goal.returns-clause-contains
returns-clause-contains c x h =
    let n : SFits w64 c.args.n = c.ranges.n in
    let from : SFits w128 c.from.result = search rules in
    let same : c.from.result ≡ c.args.n = simp to_z-of_z at c.from.ensures in
    let contains = rw same at (simp to_z-of_z at c.times_whole.ensures.contains) in
    contains x h

pub returns-clause-narrow : goal.returns-clause-narrow
returns-clause-narrow c e h =
    let n : SFits w64 c.args.n = c.ranges.n in
    let from : SFits w128 c.from.result = search rules in
    let same : c.from.result ≡ c.args.n = simp to_z-of_z at c.from.ensures in
    narrow-multiple (unsigned_abs c.args.n) (rw same at (simp to_z-of_z at c.times_whole.ensures.width)) h

pub returns-clause-same : goal.returns-clause-same
returns-clause-same c k low high =
    let n : SFits w64 c.args.n = c.ranges.n in
    let from : SFits w128 c.from.result = search rules in
    let same : c.from.result ≡ c.args.n = simp to_z-of_z at c.from.ensures in
    multiple_same c.args.part.lo c.args.part.hi c.args.n k c.times_whole.result.lo c.times_whole.result.hi
    (rw same at (simp to_z-of_z at c.times_whole.ensures.ends)) low high
