use Rattle.std.proofs.Common.{◌^◌, ◌*◌, arith}
use Rattle.exact_algebra.proofs.Span.{least_span_contains}
use Rattle.loading_sheet.specs.Centre.{z_g}
use Rattle.flux_moments.proofs.ProductEnds.{at_most_below}
use Rattle.dynamic_lever.proofs.Ends.{at_most_wider, below_at_most}
use Rattle.dynamic_lever.proofs.Widths.{quotient_within, gm_narrow, least_narrow, kg_ends}
use Rattle.dynamic_lever.proofs.stability.upright_of.Goals as goal

pub above_centre-requires-clause-kb : goal.above_centre-requires-clause-kb
above_centre-requires-clause-kb c = at_most_below (2 ^ 105) 106 (omega arith) (c.over_volume-kb.ensures.ends (2 ^ 105) (at_most_wider (2 ^ 113) (2 ^ 105 * 500000) (omega arith) (below_at_most 113 c.requires.mu)))

pub above_centre-requires-clause-bm : goal.above_centre-requires-clause-bm
above_centre-requires-clause-bm c = at_most_below (2 ^ 105) 106 (omega arith) (c.over_volume-bm.ensures.ends (2 ^ 105) (at_most_wider (2 ^ 113) (2 ^ 105 * 500000) (omega arith) (below_at_most 113 c.requires.syy)))

pub above_centre-requires-clause-kg : goal.above_centre-requires-clause-kg
above_centre-requires-clause-kg c = at_most_below (2 ^ 75) 106 (omega arith) (kg_ends c.args.loading.now c.kg.ensures)

pub returns-clause-gm : goal.returns-clause-gm
returns-clause-gm c m i h k = c.above_centre.ensures.contains _ _ _ (c.over_volume-kb.ensures.contains m h) (c.over_volume-bm.ensures.contains i k) (least_span_contains c.kg.ensures)

pub returns-clause-kb_width : goal.returns-clause-kb_width
returns-clause-kb_width c w h = quotient_within c.args.loading.now c.args.water.now w (c.over_volume-kb.ensures.narrow w h)

pub returns-clause-bm_width : goal.returns-clause-bm_width
returns-clause-bm_width c v h = quotient_within c.args.loading.now c.args.water.now v (c.over_volume-bm.ensures.narrow v h)

pub returns-clause-gm_width : goal.returns-clause-gm_width
returns-clause-gm_width c w v h k = gm_narrow c.args.loading.now c.args.water.now w v
    (c.above_centre.ensures.narrow _ _ _ (c.over_volume-kb.ensures.narrow w h) (c.over_volume-bm.ensures.narrow v k) (least_narrow (z_g c.args.loading.now) c.kg.ensures))

pub returns-clause-kb_ends : goal.returns-clause-kb_ends
returns-clause-kb_ends c most h = c.over_volume-kb.ensures.ends most h

pub returns-clause-bm_ends : goal.returns-clause-bm_ends
returns-clause-bm_ends c most h = c.over_volume-bm.ensures.ends most h

pub returns-clause-gm_ends : goal.returns-clause-gm_ends
returns-clause-gm_ends c most more h k = c.above_centre.ensures.ends most more (2 ^ 75) (c.over_volume-kb.ensures.ends most h) (c.over_volume-bm.ensures.ends more k) (kg_ends c.args.loading.now c.kg.ensures)
