use Rattle.std.proofs.Common.{◌≡◌, rules, ◌^◌, w64}
use Rattle.std.proofs.lemmas.Bool.{false≢true}
use Rattle.std.proofs.lemmas.Int.{to_z-of_z}
use Rattle.std.specs.Int.{w128}
use mir.Val.{SFits}
use Rattle.exact_algebra.specs.Span.{floor_of, ceiling_of}
use Rattle.flux_moments.proofs.Heights.{cosine_ends, sine_ends}
use Rattle.intact_criteria.specs.Readings.{least_depth, greatest_depth}
use Rattle.intact_criteria.proofs.DepthEnds.{depth_has_ends, depth_span, level_fits, place_fits}
use Rattle.intact_criteria.proofs.depth.depth_between.Goals as goal

pub depth_at_ends-least-requires-clause-cosine : goal.depth_at_ends-least-requires-clause-cosine
depth_at_ends-least-requires-clause-cosine c =
    let fits : SFits w128 c.hi.result = search rules in
    simp to_z-of_z (rw c.hi.ensures (cosine_ends c.args.bracket.now).high)

pub depth_at_ends-least-requires-clause-sine : goal.depth_at_ends-least-requires-clause-sine
depth_at_ends-least-requires-clause-sine c =
    let fits : SFits w128 c.lo.result = search rules in
    simp to_z-of_z (rw c.lo.ensures (sine_ends c.args.bracket.now).low)

pub depth_at_ends-greatest-requires-clause-cosine : goal.depth_at_ends-greatest-requires-clause-cosine
depth_at_ends-greatest-requires-clause-cosine c =
    let fits : SFits w128 c.lo-2.result = search rules in
    simp to_z-of_z (rw c.lo-2.ensures (cosine_ends c.args.bracket.now).low)

pub depth_at_ends-greatest-requires-clause-sine : goal.depth_at_ends-greatest-requires-clause-sine
depth_at_ends-greatest-requires-clause-sine c =
    let fits : SFits w128 c.hi-2.result = search rules in
    simp to_z-of_z (rw c.hi-2.ensures (sine_ends c.args.bracket.now).high)

pub unreachable-requires : goal.unreachable-requires
unreachable-requires c =
    let levels = level_fits c.args.drafts.now in
    let d1 : SFits w64 c.args.drafts.now.d1 = levels.0 in
    let d2 : SFits w64 c.args.drafts.now.d2 = levels.1 in
    let place = place_fits c.args.opening.now in
    let y : SFits w64 c.args.opening.now.y = place.0 in
    let z : SFits w64 c.args.opening.now.z = place.1 in
    let hi : SFits w128 c.hi.result = search rules in
    let lo : SFits w128 c.lo.result = search rules in
    let lo2 : SFits w128 c.lo-2.result = search rules in
    let hi2 : SFits w128 c.hi-2.result = search rules in
    let l : SFits w128 c.depth_at_ends-least.result = search rules in
    let g : SFits w128 c.depth_at_ends-greatest.result = search rules in
    let f : SFits w128 c.floor.result = search rules in
    let t : SFits w128 c.ceiling.result = search rules in
    let least : c.depth_at_ends-least.result ≡ least_depth c.args.bracket.now c.args.drafts.now c.args.opening.now = rw (c.hi.ensures, c.lo.ensures) at (simp to_z-of_z at c.depth_at_ends-least.ensures.value) in
    let greatest : c.depth_at_ends-greatest.result ≡ greatest_depth c.args.bracket.now c.args.drafts.now c.args.opening.now = rw (c.lo-2.ensures, c.hi-2.ensures) at (simp to_z-of_z at c.depth_at_ends-greatest.ensures.value) in
    let low : c.floor.result ≡ floor_of c.depth_at_ends-least.result (2 ^ 20) = simp to_z-of_z at c.floor.ensures.value in
    let high : c.ceiling.result ≡ ceiling_of c.depth_at_ends-greatest.result (2 ^ 20) = simp to_z-of_z at c.ceiling.ensures.value in
    false≢true (c.in-None.ensures.some.1 (simp to_z-of_z (depth_span c.args.bracket.now c.args.drafts.now c.args.opening.now c.depth_at_ends-least.result c.depth_at_ends-greatest.result c.floor.result c.ceiling.result least greatest low high c.floor.ensures.size c.ceiling.ensures.size)))

pub returns : goal.returns
returns c =
    let levels = level_fits c.args.drafts.now in
    let d1 : SFits w64 c.args.drafts.now.d1 = levels.0 in
    let d2 : SFits w64 c.args.drafts.now.d2 = levels.1 in
    let place = place_fits c.args.opening.now in
    let y : SFits w64 c.args.opening.now.y = place.0 in
    let z : SFits w64 c.args.opening.now.z = place.1 in
    let hi : SFits w128 c.hi.result = search rules in
    let lo : SFits w128 c.lo.result = search rules in
    let lo2 : SFits w128 c.lo-2.result = search rules in
    let hi2 : SFits w128 c.hi-2.result = search rules in
    let l : SFits w128 c.depth_at_ends-least.result = search rules in
    let g : SFits w128 c.depth_at_ends-greatest.result = search rules in
    let f : SFits w128 c.floor.result = search rules in
    let t : SFits w128 c.ceiling.result = search rules in
    let least : c.depth_at_ends-least.result ≡ least_depth c.args.bracket.now c.args.drafts.now c.args.opening.now = rw (c.hi.ensures, c.lo.ensures) at (simp to_z-of_z at c.depth_at_ends-least.ensures.value) in
    let greatest : c.depth_at_ends-greatest.result ≡ greatest_depth c.args.bracket.now c.args.drafts.now c.args.opening.now = rw (c.lo-2.ensures, c.hi-2.ensures) at (simp to_z-of_z at c.depth_at_ends-greatest.ensures.value) in
    let low : c.floor.result ≡ floor_of c.depth_at_ends-least.result (2 ^ 20) = simp to_z-of_z at c.floor.ensures.value in
    let high : c.ceiling.result ≡ ceiling_of c.depth_at_ends-greatest.result (2 ^ 20) = simp to_z-of_z at c.ceiling.ensures.value in
    let ends = simp to_z-of_z at c.in-Some.ensures.ends in
    depth_has_ends c.args.bracket.now c.args.drafts.now c.args.opening.now c.depth_at_ends-least.result c.depth_at_ends-greatest.result c.floor.result c.ceiling.result c.in-Some.span least greatest low high ends.0 ends.1
