use Rattle.std.proofs.Common.{◌≡◌, ◌-◌, ◌^◌, ◌≤◌, rules, arith}
use Rattle.std.proofs.lemmas.Int.{to_z-of_z}
use Rattle.std.specs.Int.{w128}
use mir.Val.{SFits}
use Rattle.exact_algebra.proofs.Products.{contains_rescaled}
use Rattle.outward_interval.proofs.Quotients.{le-times, floor_rescaled, ceiling_rescaled}
use Rattle.outward_interval.proofs.Signed.{fits}
use Rattle.outward_interval.proofs.Widths.{rescaled-width}
use Rattle.outward_interval.proofs.span.Span.rescale.Goals as goal

pub rounded-requires : goal.rounded-requires
rounded-requires g c =
    let a : SFits w128 c.args.self.lo = fits c.args.self.low in
    let b : SFits w128 c.args.self.hi = fits c.args.self.high in
    let p : SFits w128 c.shifted-low.result = search rules in
    let q : SFits w128 c.shifted-high.result = search rules in
    let low = simp to_z-of_z at c.shifted-low.ensures.value in
    let high = simp to_z-of_z at c.shifted-high.ensures.value in
    let coarser : c.saturating_sub-coarser.result ≤ 60 = omega (arith, c.saturating_sub-coarser.ensures, c.args.self.scale) in (
      omega arith,
      (simp to_z-of_z (rw (low, high) (le-times _ _ _ c.args.self.ordered)), (simp to_z-of_z c.shifted-low.ensures.size, (simp to_z-of_z c.shifted-high.ensures.size, (coarser, c.requires.scale)))),
    )

pub returns-clause-ends : goal.returns-clause-ends
returns-clause-ends g c =
    let a : SFits w128 c.args.self.lo = fits c.args.self.low in
    let b : SFits w128 c.args.self.hi = fits c.args.self.high in
    let p : SFits w128 c.shifted-low.result = search rules in
    let q : SFits w128 c.shifted-high.result = search rules in
    let finer : c.saturating_sub-finer.result ≡ g.row.G - g.row.F = search rules in
    let coarser : c.saturating_sub-coarser.result ≡ g.row.F - g.row.G = search rules in
    let low = rw finer at (simp to_z-of_z at c.shifted-low.ensures.value) in
    let high = rw finer at (simp to_z-of_z at c.shifted-high.ensures.value) in
    let ends = rw coarser at (simp to_z-of_z at c.rounded.ensures) in
    record {
      low = floor_rescaled g.row.F g.row.G c.args.self.lo c.rounded.result.lo (rw low at ends.low);
      high = ceiling_rescaled g.row.F g.row.G c.args.self.hi c.rounded.result.hi (rw high at ends.high);
    }

pub returns-clause-contains : goal.returns-clause-contains
returns-clause-contains g c x of_self =
    let a : SFits w128 c.args.self.lo = fits c.args.self.low in
    let b : SFits w128 c.args.self.hi = fits c.args.self.high in
    let p : SFits w128 c.shifted-low.result = search rules in
    let q : SFits w128 c.shifted-high.result = search rules in
    let finer : c.saturating_sub-finer.result ≡ g.row.G - g.row.F = search rules in
    let coarser : c.saturating_sub-coarser.result ≡ g.row.F - g.row.G = search rules in
    let low = rw finer at (simp to_z-of_z at c.shifted-low.ensures.value) in
    let high = rw finer at (simp to_z-of_z at c.shifted-high.ensures.value) in
    let ends = rw coarser at (simp to_z-of_z at c.rounded.ensures) in
    contains_rescaled of_self
    (floor_rescaled g.row.F g.row.G c.args.self.lo c.rounded.result.lo (rw low at ends.low))
    (ceiling_rescaled g.row.F g.row.G c.args.self.hi c.rounded.result.hi (rw high at ends.high))

pub returns-clause-width : goal.returns-clause-width
returns-clause-width g c =
    let a : SFits w128 c.args.self.lo = fits c.args.self.low in
    let b : SFits w128 c.args.self.hi = fits c.args.self.high in
    let p : SFits w128 c.shifted-low.result = search rules in
    let q : SFits w128 c.shifted-high.result = search rules in
    let finer : c.saturating_sub-finer.result ≡ g.row.G - g.row.F = search rules in
    let coarser : c.saturating_sub-coarser.result ≡ g.row.F - g.row.G = search rules in
    let low = rw finer at (simp to_z-of_z at c.shifted-low.ensures.value) in
    let high = rw finer at (simp to_z-of_z at c.shifted-high.ensures.value) in
    let ends = rw coarser at (simp to_z-of_z at c.rounded.ensures) in
    rescaled-width (2 ^ g.row.F) (2 ^ g.row.G) c.args.self.lo c.args.self.hi c.rounded.result.lo c.rounded.result.hi (record {
      low = floor_rescaled g.row.F g.row.G c.args.self.lo c.rounded.result.lo (rw low at ends.low);
      high = ceiling_rescaled g.row.F g.row.G c.args.self.hi c.rounded.result.hi (rw high at ends.high);
    })
