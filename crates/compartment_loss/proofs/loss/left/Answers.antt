use Rattle.std.proofs.Common.{rules, ◌≤◌, sym, subst, List, length, arith}
use Rattle.exact_algebra.proofs.Fraction.{one}
use Rattle.exact_algebra.proofs.Whole.{whole}
use Rattle.hull_model.specs.Waterplane.{side_distance}
use Rattle.hull_polyhedron.specs.Columns.{middle}
use Rattle.outward_interval.proofs.Narrow.{narrow-wider}
use Rattle.plane_clip.specs.declared.part.Part.{Part}
use Rattle.flux_moments.specs.Shared.{HoldShares, shared_column}
use Rattle.flux_moments.specs.Widths.{size_of, reach_of}
use Rattle.flux_moments.proofs.TotalWidths.{some_reach}
use Rattle.compartment_loss.specs.Flooding.{flooded_parts}
use Rattle.compartment_loss.proofs.LeftSpans.{contains-rest, contains-all, ends-less, not_empty, by-kept}
use Rattle.compartment_loss.proofs.LeftValues.{volume_is_left, mx_is_left, mv_is_left, mu_is_left}
use Rattle.compartment_loss.proofs.LostWidths.{AreLost, are-lost, some_last, volume-wider, bound-more, volume-narrow, left-narrow, lost_bound}
use Rattle.compartment_loss.proofs.OneProof.{narrow-prop}
use Rattle.compartment_loss.proofs.loss.left.Goals as goal

-- ---- no parts
pub returns-then-is_empty-clause-volume : goal.returns-then-is_empty-clause-volume
returns-then-is_empty-clause-volume c stations hull are plane is =
    let flood = c.args.flood.now in
    let faces = flood.faces.now in
    contains-all flood.parts.items (flooded_parts faces.list flood.slabs.items) flood.held (shared_column plane faces.first_x faces.last_x (λ p. one)) _ _
    (volume_is_left plane stations hull faces are flood.slabs.items) (search rules) (c.measure-all.ensures.volume stations hull are plane is)

pub returns-then-is_empty-clause-mx : goal.returns-then-is_empty-clause-mx
returns-then-is_empty-clause-mx c stations hull are plane is =
    let flood = c.args.flood.now in
    let faces = flood.faces.now in
    contains-all flood.parts.items (flooded_parts faces.list flood.slabs.items) flood.held (shared_column plane faces.first_x faces.last_x (λ p. p.x)) _ _
    (mx_is_left plane stations hull faces are flood.slabs.items) (search rules) (c.measure-all.ensures.mx stations hull are plane is)

pub returns-then-is_empty-clause-mv : goal.returns-then-is_empty-clause-mv
returns-then-is_empty-clause-mv c stations hull are plane is =
    let flood = c.args.flood.now in
    let faces = flood.faces.now in
    contains-all flood.parts.items (flooded_parts faces.list flood.slabs.items) flood.held (shared_column plane faces.first_x faces.last_x (side_distance plane)) _ _
    (mv_is_left plane stations hull faces are flood.slabs.items) (search rules) (c.measure-all.ensures.mv stations hull are plane is)

pub returns-then-is_empty-clause-mu : goal.returns-then-is_empty-clause-mu
returns-then-is_empty-clause-mu c stations hull are plane is =
    let flood = c.args.flood.now in
    let faces = flood.faces.now in
    contains-all flood.parts.items (flooded_parts faces.list flood.slabs.items) flood.held (shared_column plane faces.first_x faces.last_x (middle plane faces.first_x faces.last_x)) _ _
    (mu_is_left plane stations hull faces are flood.slabs.items) (search rules) (c.measure-all.ensures.mu stations hull are plane is)

pub returns-then-is_empty-clause-volume_width : goal.returns-then-is_empty-clause-volume_width
returns-then-is_empty-clause-volume_width c = narrow-wider (volume-wider c.args.flood.now.faces.now c.args.planes.now (length c.args.flood.now.slabs.items)) c.measure-all.ensures.volume_width

pub returns-then-is_empty-clause-mx_width : goal.returns-then-is_empty-clause-mx_width
returns-then-is_empty-clause-mx_width c =
    let faces = c.args.flood.now.faces.now in
    narrow-wider (bound-more faces c.args.planes.now (length c.args.flood.now.slabs.items) (whole faces.last_x) (some_last faces)) c.measure-all.ensures.mx_width

pub returns-then-is_empty-clause-mv_width : goal.returns-then-is_empty-clause-mv_width
returns-then-is_empty-clause-mv_width c =
    let faces = c.args.flood.now.faces.now in
    narrow-wider (bound-more faces c.args.planes.now (length c.args.flood.now.slabs.items) (reach_of faces c.args.planes.now) (some_reach faces c.args.planes.now)) c.measure-all.ensures.mv_width

pub returns-then-is_empty-clause-mu_width : goal.returns-then-is_empty-clause-mu_width
returns-then-is_empty-clause-mu_width c =
    let faces = c.args.flood.now.faces.now in
    narrow-wider (bound-more faces c.args.planes.now (length c.args.flood.now.slabs.items) (reach_of faces c.args.planes.now) (some_reach faces c.args.planes.now)) c.measure-all.ensures.mu_width

-- ---- less the parts
pub returns-clause-volume : goal.returns-clause-volume
returns-clause-volume c stations hull are plane is =
    let flood = c.args.flood.now in
    let faces = flood.faces.now in
    let lost = flooded_parts faces.list flood.slabs.items in
    contains-rest flood.parts.items lost flood.held (shared_column plane faces.first_x faces.last_x (λ p. one)) _ _
    (volume_is_left plane stations hull faces are flood.slabs.items) c.sub.ensures.volume (c.measure-all.ensures.volume stations hull are plane is)
    (λ held. c.part_sums.ensures.volume plane lost is (subst (λ (ps : List Part). HoldShares ps lost) (sym c.deref.ensures.value) held))

pub returns-clause-mx : goal.returns-clause-mx
returns-clause-mx c stations hull are plane is =
    let flood = c.args.flood.now in
    let faces = flood.faces.now in
    let lost = flooded_parts faces.list flood.slabs.items in
    contains-rest flood.parts.items lost flood.held (shared_column plane faces.first_x faces.last_x (λ p. p.x)) _ _
    (mx_is_left plane stations hull faces are flood.slabs.items) c.sub.ensures.mx (c.measure-all.ensures.mx stations hull are plane is)
    (λ held. c.part_sums.ensures.mx plane lost is (subst (λ (ps : List Part). HoldShares ps lost) (sym c.deref.ensures.value) held))

pub returns-clause-mv : goal.returns-clause-mv
returns-clause-mv c stations hull are plane is =
    let flood = c.args.flood.now in
    let faces = flood.faces.now in
    let lost = flooded_parts faces.list flood.slabs.items in
    contains-rest flood.parts.items lost flood.held (shared_column plane faces.first_x faces.last_x (side_distance plane)) _ _
    (mv_is_left plane stations hull faces are flood.slabs.items) c.sub.ensures.mv (c.measure-all.ensures.mv stations hull are plane is)
    (λ held. c.part_sums.ensures.mv plane lost is (subst (λ (ps : List Part). HoldShares ps lost) (sym c.deref.ensures.value) held))

pub returns-clause-mu : goal.returns-clause-mu
returns-clause-mu c stations hull are plane is =
    let flood = c.args.flood.now in
    let faces = flood.faces.now in
    let lost = flooded_parts faces.list flood.slabs.items in
    contains-rest flood.parts.items lost flood.held (shared_column plane faces.first_x faces.last_x (middle plane faces.first_x faces.last_x)) _ _
    (mu_is_left plane stations hull faces are flood.slabs.items) c.sub.ensures.mu (c.measure-all.ensures.mu stations hull are plane is)
    (λ held. c.part_sums.ensures.mu plane lost is (subst (λ (ps : List Part). HoldShares ps lost) (sym c.deref.ensures.value) held))

pub returns-clause-volume_width : goal.returns-clause-volume_width
returns-clause-volume_width c =
    let flood = c.args.flood.now in
    let faces = flood.faces.now in
    let planes = c.args.planes.now in
    let slabs = length flood.slabs.items in
    let some : 1 ≤ length flood.parts.items = not_empty c.is_empty.result _ _ c.is_empty.ensures c.if-is_empty.false flood.parts.ok.0 in
    by-kept (narrow-prop 20 _ c.sub.result.volume.lo c.sub.result.volume.hi) flood.limits flood.held (λ limits held.
    let lost = subst (λ (ps : List Part). AreLost faces planes slabs ps) (sym c.deref.ensures.value) (are-lost faces planes flood.slabs.items flood.parts.items some limits held flood.extents) in
    volume-narrow faces planes slabs c.sub.ensures.volume c.measure-all.ensures.volume_width
    (c.part_sums.ensures.volume_width (size_of planes) (reach_of faces planes) (lost_bound faces planes slabs one) _ _ lost.reached lost.volumes))

pub returns-clause-mx_width : goal.returns-clause-mx_width
returns-clause-mx_width c =
    let flood = c.args.flood.now in
    let faces = flood.faces.now in
    let planes = c.args.planes.now in
    let slabs = length flood.slabs.items in
    let some : 1 ≤ length flood.parts.items = not_empty c.is_empty.result _ _ c.is_empty.ensures c.if-is_empty.false flood.parts.ok.0 in
    by-kept (narrow-prop 20 _ c.sub.result.mx.lo c.sub.result.mx.hi) flood.limits flood.held (λ limits held.
    let lost = subst (λ (ps : List Part). AreLost faces planes slabs ps) (sym c.deref.ensures.value) (are-lost faces planes flood.slabs.items flood.parts.items some limits held flood.extents) in
    left-narrow faces planes slabs (whole faces.last_x) c.sub.ensures.mx c.measure-all.ensures.mx_width
    (c.part_sums.ensures.mx_width (size_of planes) (reach_of faces planes) (lost_bound faces planes slabs (whole faces.last_x)) _ _ lost.reached lost.lengths))

pub returns-clause-mv_width : goal.returns-clause-mv_width
returns-clause-mv_width c =
    let flood = c.args.flood.now in
    let faces = flood.faces.now in
    let planes = c.args.planes.now in
    let slabs = length flood.slabs.items in
    let some : 1 ≤ length flood.parts.items = not_empty c.is_empty.result _ _ c.is_empty.ensures c.if-is_empty.false flood.parts.ok.0 in
    by-kept (narrow-prop 20 _ c.sub.result.mv.lo c.sub.result.mv.hi) flood.limits flood.held (λ limits held.
    let lost = subst (λ (ps : List Part). AreLost faces planes slabs ps) (sym c.deref.ensures.value) (are-lost faces planes flood.slabs.items flood.parts.items some limits held flood.extents) in
    left-narrow faces planes slabs (reach_of faces planes) c.sub.ensures.mv c.measure-all.ensures.mv_width
    (c.part_sums.ensures.mv_width (size_of planes) (reach_of faces planes) (lost_bound faces planes slabs (reach_of faces planes)) _ _ lost.reached lost.heights))

pub returns-clause-mu_width : goal.returns-clause-mu_width
returns-clause-mu_width c =
    let flood = c.args.flood.now in
    let faces = flood.faces.now in
    let planes = c.args.planes.now in
    let slabs = length flood.slabs.items in
    let some : 1 ≤ length flood.parts.items = not_empty c.is_empty.result _ _ c.is_empty.ensures c.if-is_empty.false flood.parts.ok.0 in
    by-kept (narrow-prop 20 _ c.sub.result.mu.lo c.sub.result.mu.hi) flood.limits flood.held (λ limits held.
    let lost = subst (λ (ps : List Part). AreLost faces planes slabs ps) (sym c.deref.ensures.value) (are-lost faces planes flood.slabs.items flood.parts.items some limits held flood.extents) in
    left-narrow faces planes slabs (reach_of faces planes) c.sub.ensures.mu c.measure-all.ensures.mu_width
    (c.part_sums.ensures.mu_width (size_of planes) (reach_of faces planes) (lost_bound faces planes slabs (reach_of faces planes)) _ _ lost.reached lost.quarters))

pub returns-clause-ends : goal.returns-clause-ends
returns-clause-ends c =
    let whole_hull = c.measure-all.ensures.ends in
    let lost = c.part_sums.ensures.ends in (
      ends-less 113 121 122 (omega arith) c.sub.ensures.volume whole_hull.0 lost.0,
      ends-less 113 121 122 (omega arith) c.sub.ensures.mx whole_hull.1 lost.1,
      ends-less 113 121 122 (omega arith) c.sub.ensures.mv whole_hull.2 lost.2,
      ends-less 113 121 122 (omega arith) c.sub.ensures.mu whole_hull.3 lost.3,
    )

pub returns-clause-volume_ends : goal.returns-clause-volume_ends
returns-clause-volume_ends c = ends-less 91 99 100 (omega arith) c.sub.ensures.volume c.measure-all.ensures.volume_ends c.part_sums.ensures.volume_ends
