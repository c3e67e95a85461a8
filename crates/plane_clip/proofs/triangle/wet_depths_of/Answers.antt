use Rattle.std.proofs.Common.{◌∙◌, true, false}
use Rattle.plane_clip.specs.Rounded.{depth_ends}
use Rattle.plane_clip.proofs.ReadDepths.{are_read, fields_read, fields_ordered, fields_weighted}
use Rattle.plane_clip.proofs.FromEnds.{depth_below, weighted_below}
use Rattle.plane_clip.proofs.triangle.wet_depths_of.Goals as goal

pub depth_spans-requires : goal.depth_spans-requires
depth_spans-requires c =
    let low = are_read c.lower.result c.lower-2.result c.lower-3.result c.args.x.lo c.args.y.lo c.args.z.lo c.lower.ensures.near c.lower-2.ensures.near c.lower-3.ensures.near c.lower.ensures.value c.lower-2.ensures.value c.lower-3.ensures.value in
    let high = are_read c.upper.result c.upper-2.result c.upper-3.result c.args.x.hi c.args.y.hi c.args.z.hi c.upper.ensures.near c.upper-2.ensures.near c.upper-3.ensures.near c.upper.ensures.value c.upper-2.ensures.value c.upper-3.ensures.value in
    let low_fields = fields_read false c.lower.result c.lower-2.result c.lower-3.result c.args.x.lo c.args.y.lo c.args.z.lo c.depths_at-low.result.depth c.depths_at-low.result.first c.depths_at-low.result.second c.depths_at-low.result.third low
    (record { depth = c.depths_at-low.ensures.depth; first = c.depths_at-low.ensures.first; second = c.depths_at-low.ensures.second; third = c.depths_at-low.ensures.third }) in
    let high_fields = fields_read true c.upper.result c.upper-2.result c.upper-3.result c.args.x.hi c.args.y.hi c.args.z.hi c.depths_at-high.result.depth c.depths_at-high.result.first c.depths_at-high.result.second c.depths_at-high.result.third high
    (record { depth = c.depths_at-high.ensures.depth; first = c.depths_at-high.ensures.first; second = c.depths_at-high.ensures.second; third = c.depths_at-high.ensures.third }) in
    fields_ordered c.args.x.lo c.args.y.lo c.args.z.lo c.args.x.hi c.args.y.hi c.args.z.hi c.depths_at-low.result.depth c.depths_at-low.result.first c.depths_at-low.result.second c.depths_at-low.result.third c.depths_at-high.result.depth c.depths_at-high.result.first c.depths_at-high.result.second c.depths_at-high.result.third
    c.args.x.ordered c.args.y.ordered c.args.z.ordered low_fields high_fields

pub returns-clause-depth : goal.returns-clause-depth
returns-clause-depth c =
    let low = are_read c.lower.result c.lower-2.result c.lower-3.result c.args.x.lo c.args.y.lo c.args.z.lo c.lower.ensures.near c.lower-2.ensures.near c.lower-3.ensures.near c.lower.ensures.value c.lower-2.ensures.value c.lower-3.ensures.value in
    let high = are_read c.upper.result c.upper-2.result c.upper-3.result c.args.x.hi c.args.y.hi c.args.z.hi c.upper.ensures.near c.upper-2.ensures.near c.upper-3.ensures.near c.upper.ensures.value c.upper-2.ensures.value c.upper-3.ensures.value in
    let low_fields = fields_read false c.lower.result c.lower-2.result c.lower-3.result c.args.x.lo c.args.y.lo c.args.z.lo c.depths_at-low.result.depth c.depths_at-low.result.first c.depths_at-low.result.second c.depths_at-low.result.third low
    (record { depth = c.depths_at-low.ensures.depth; first = c.depths_at-low.ensures.first; second = c.depths_at-low.ensures.second; third = c.depths_at-low.ensures.third }) in
    let high_fields = fields_read true c.upper.result c.upper-2.result c.upper-3.result c.args.x.hi c.args.y.hi c.args.z.hi c.depths_at-high.result.depth c.depths_at-high.result.first c.depths_at-high.result.second c.depths_at-high.result.third high
    (record { depth = c.depths_at-high.ensures.depth; first = c.depths_at-high.ensures.first; second = c.depths_at-high.ensures.second; third = c.depths_at-high.ensures.third }) in
    (c.depth_spans.ensures.depth.0 ∙ low_fields.depth, c.depth_spans.ensures.depth.1 ∙ high_fields.depth)

pub returns-clause-weighted : goal.returns-clause-weighted
returns-clause-weighted c =
    let low = are_read c.lower.result c.lower-2.result c.lower-3.result c.args.x.lo c.args.y.lo c.args.z.lo c.lower.ensures.near c.lower-2.ensures.near c.lower-3.ensures.near c.lower.ensures.value c.lower-2.ensures.value c.lower-3.ensures.value in
    let high = are_read c.upper.result c.upper-2.result c.upper-3.result c.args.x.hi c.args.y.hi c.args.z.hi c.upper.ensures.near c.upper-2.ensures.near c.upper-3.ensures.near c.upper.ensures.value c.upper-2.ensures.value c.upper-3.ensures.value in
    let low_fields = fields_read false c.lower.result c.lower-2.result c.lower-3.result c.args.x.lo c.args.y.lo c.args.z.lo c.depths_at-low.result.depth c.depths_at-low.result.first c.depths_at-low.result.second c.depths_at-low.result.third low
    (record { depth = c.depths_at-low.ensures.depth; first = c.depths_at-low.ensures.first; second = c.depths_at-low.ensures.second; third = c.depths_at-low.ensures.third }) in
    let high_fields = fields_read true c.upper.result c.upper-2.result c.upper-3.result c.args.x.hi c.args.y.hi c.args.z.hi c.depths_at-high.result.depth c.depths_at-high.result.first c.depths_at-high.result.second c.depths_at-high.result.third high
    (record { depth = c.depths_at-high.ensures.depth; first = c.depths_at-high.ensures.first; second = c.depths_at-high.ensures.second; third = c.depths_at-high.ensures.third }) in
    fields_weighted c.depth_spans.result.weighted (depth_ends false c.args.x.lo c.args.y.lo c.args.z.lo) (depth_ends true c.args.x.hi c.args.y.hi c.args.z.hi)
    c.depths_at-low.result.depth c.depths_at-low.result.first c.depths_at-low.result.second c.depths_at-low.result.third c.depths_at-high.result.depth c.depths_at-high.result.first c.depths_at-high.result.second c.depths_at-high.result.third low_fields high_fields c.depth_spans.ensures.weighted

pub returns-clause-depth_bounded : goal.returns-clause-depth_bounded
returns-clause-depth_bounded c = depth_below c.depth_spans.result.depth c.depths_at-low.result.depth c.depths_at-high.result.depth c.depths_at-low.ensures.small.0 c.depths_at-high.ensures.small.0 c.depth_spans.ensures.depth

pub returns-clause-weighted_bounded : goal.returns-clause-weighted_bounded
returns-clause-weighted_bounded c =
    weighted_below c.depth_spans.result.weighted c.depths_at-low.result.depth c.depths_at-low.result.first c.depths_at-low.result.second c.depths_at-low.result.third c.depths_at-high.result.depth c.depths_at-high.result.first c.depths_at-high.result.second c.depths_at-high.result.third c.depths_at-low.ensures.small c.depths_at-high.ensures.small c.depth_spans.ensures.weighted
