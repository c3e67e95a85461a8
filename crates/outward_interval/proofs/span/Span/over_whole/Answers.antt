use Rattle.std.proofs.Common.{unsigned_abs}
use Rattle.std.proofs.lemmas.Int.{to_z-of_z}
use Rattle.std.specs.Int.{w128}
use mir.Val.{SFits}
use Rattle.outward_interval.proofs.Contained.{whole_quotient_contains}
use Rattle.outward_interval.proofs.Signed.{fits}
use Rattle.exact_algebra.proofs.Products.{rounded-width}
use Rattle.outward_interval.proofs.span.Span.over_whole.Goals as goal

pub returns-clause-contains : goal.returns-clause-contains
returns-clause-contains g c x of_self =
    let a : SFits w128 c.args.self.lo = fits c.args.self.low in
    let b : SFits w128 c.args.self.hi = fits c.args.self.high in
    let n : SFits w128 c.args.n = c.ranges.n in
    let ends = simp to_z-of_z at c.divided.ensures in
    whole_quotient_contains g.row.F c.args.self.lo c.args.self.hi c.args.n c.divided.result.lo c.divided.result.hi x c.requires ends of_self

pub returns-clause-width : goal.returns-clause-width
returns-clause-width g c =
    let a : SFits w128 c.args.self.lo = fits c.args.self.low in
    let b : SFits w128 c.args.self.hi = fits c.args.self.high in
    let n : SFits w128 c.args.n = c.ranges.n in
    let ends = simp to_z-of_z at c.divided.ensures in
    rounded-width c.args.self.lo c.args.self.hi (unsigned_abs c.args.n) c.divided.result.lo c.divided.result.hi ends.low ends.high
