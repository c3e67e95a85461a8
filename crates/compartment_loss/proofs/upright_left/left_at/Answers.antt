use Rattle.std.proofs.Common.{rules, ◌≤◌, sym, subst, List, length}
use Rattle.std.proofs.lemmas.Int.{to_z-of_z}
use Rattle.std.specs.Int.{w64}
use mir.Val.{SFits}
use Rattle.exact_algebra.proofs.Fraction.{Fraction, one, ◌⊗◌}
use Rattle.exact_algebra.proofs.Whole.{whole}
use Rattle.outward_interval.specs.Widths.{IsNarrow}
use Rattle.outward_interval.proofs.Narrow.{narrow-wider}
use Rattle.plane_clip.specs.declared.part.Part.{Part}
use Rattle.flux_moments.specs.Shared.{HoldShares, shared_column}
use Rattle.flux_moments.specs.Widths.{size_of, reach_of}
use Rattle.compartment_loss.specs.Flooding.{flooded_parts}
use Rattle.compartment_loss.proofs.LeftSpans.{contains-rest, contains-all, not_empty, by-kept}
use Rattle.compartment_loss.proofs.LeftValues.{volume_is_left, mx_is_left}
use Rattle.compartment_loss.proofs.LostWidths.{AreLost, are-lost, some_last, volume-wider, bound-more, volume-narrow, left-narrow, lost_bound}
use Rattle.compartment_loss.proofs.OneProof.{narrow-prop}
use Rattle.compartment_loss.proofs.UprightBoxes.{any_level, same_bound}
use Rattle.compartment_loss.proofs.upright_left.left_at.Goals as goal

pub body_at-all-requires : goal.body_at-all-requires
body_at-all-requires c = any_level _ _ c.box_at-planes.result c.box_at-planes.ensures.upright

pub returns-then-is_empty-clause-volume : goal.returns-then-is_empty-clause-volume
returns-then-is_empty-clause-volume c stations hull are plane is =
    let flood = c.args.flood.now in
    let faces = flood.faces.now in
    let a : SFits w64 c.args.a = c.ranges.a in
    let f : SFits w64 c.args.f = c.ranges.f in
    let within = (simp to_z-of_z at c.box_at-planes.ensures.contains) plane is in
    contains-all flood.parts.items (flooded_parts faces.list flood.slabs.items) flood.held (shared_column plane faces.first_x faces.last_x (λ p. one)) _ _
    (volume_is_left plane stations hull faces are flood.slabs.items) (search rules) (c.body_at-all.ensures.volume stations hull are plane within)

pub returns-clause-volume : goal.returns-clause-volume
returns-clause-volume c stations hull are plane is =
    let flood = c.args.flood.now in
    let faces = flood.faces.now in
    let lost = flooded_parts faces.list flood.slabs.items in
    let a : SFits w64 c.args.a = c.ranges.a in
    let f : SFits w64 c.args.f = c.ranges.f in
    let within = (simp to_z-of_z at c.box_at-planes.ensures.contains) plane is in
    contains-rest flood.parts.items lost flood.held (shared_column plane faces.first_x faces.last_x (λ p. one)) _ _
    (volume_is_left plane stations hull faces are flood.slabs.items) c.sub.ensures (c.body_at-all.ensures.volume stations hull are plane within)
    (λ held. c.lost_at-lost.ensures.volume plane lost within (subst (λ (ps : List Part). HoldShares ps lost) (sym c.deref.ensures.value) held))

pub returns-then-is_empty-clause-mx : goal.returns-then-is_empty-clause-mx
returns-then-is_empty-clause-mx c stations hull are plane is =
    let flood = c.args.flood.now in
    let faces = flood.faces.now in
    let a : SFits w64 c.args.a = c.ranges.a in
    let f : SFits w64 c.args.f = c.ranges.f in
    let within = (simp to_z-of_z at c.box_at-planes.ensures.contains) plane is in
    contains-all flood.parts.items (flooded_parts faces.list flood.slabs.items) flood.held (shared_column plane faces.first_x faces.last_x (λ p. p.x)) _ _
    (mx_is_left plane stations hull faces are flood.slabs.items) (search rules) (c.body_at-all.ensures.mx stations hull are plane within)

pub returns-clause-mx : goal.returns-clause-mx
returns-clause-mx c stations hull are plane is =
    let flood = c.args.flood.now in
    let faces = flood.faces.now in
    let lost = flooded_parts faces.list flood.slabs.items in
    let a : SFits w64 c.args.a = c.ranges.a in
    let f : SFits w64 c.args.f = c.ranges.f in
    let within = (simp to_z-of_z at c.box_at-planes.ensures.contains) plane is in
    contains-rest flood.parts.items lost flood.held (shared_column plane faces.first_x faces.last_x (λ p. p.x)) _ _
    (mx_is_left plane stations hull faces are flood.slabs.items) c.sub-2.ensures (c.body_at-all.ensures.mx stations hull are plane within)
    (λ held. c.lost_at-lost.ensures.mx plane lost within (subst (λ (ps : List Part). HoldShares ps lost) (sym c.deref.ensures.value) held))

pub returns-then-is_empty-clause-volume_width : goal.returns-then-is_empty-clause-volume_width
returns-then-is_empty-clause-volume_width c planes is =
    let faces = c.args.flood.now.faces.now in
    let slabs = length c.args.flood.now.slabs.items in
    let inner = c.box_at-planes.result in
    let a : SFits w64 c.args.a = c.ranges.a in
    let f : SFits w64 c.args.f = c.ranges.f in
    let upright = simp to_z-of_z at c.box_at-planes.ensures.upright in
    subst (λ (w : Fraction). IsNarrow 20 (w) c.body_at-all.result.volume.lo c.body_at-all.result.volume.hi) (same_bound c.args.a c.args.f inner planes upright is slabs faces)
    (narrow-wider (volume-wider faces inner slabs) c.body_at-all.ensures.volume_width)

pub returns-clause-volume_width : goal.returns-clause-volume_width
returns-clause-volume_width c planes is =
    let flood = c.args.flood.now in
    let faces = flood.faces.now in
    let slabs = length flood.slabs.items in
    let inner = c.box_at-planes.result in
    let a : SFits w64 c.args.a = c.ranges.a in
    let f : SFits w64 c.args.f = c.ranges.f in
    let upright = simp to_z-of_z at c.box_at-planes.ensures.upright in
    let some : 1 ≤ length flood.parts.items = not_empty c.is_empty.result _ _ c.is_empty.ensures c.if-is_empty.false flood.parts.ok.0 in
    subst (λ (w : Fraction). IsNarrow 20 (w) c.sub.result.lo c.sub.result.hi) (same_bound c.args.a c.args.f inner planes upright is slabs faces)
    (by-kept (narrow-prop 20 _ c.sub.result.lo c.sub.result.hi) flood.limits flood.held (λ limits held.
    let lost = subst (λ (ps : List Part). AreLost faces inner slabs ps) (sym c.deref.ensures.value) (are-lost faces inner flood.slabs.items flood.parts.items some limits held flood.extents) in
    volume-narrow faces inner slabs c.sub.ensures c.body_at-all.ensures.volume_width
    (c.lost_at-lost.ensures.volume_width (size_of inner) (reach_of faces inner) (lost_bound faces inner slabs one) _ _ lost.reached lost.volumes)))

pub returns-then-is_empty-clause-mx_width : goal.returns-then-is_empty-clause-mx_width
returns-then-is_empty-clause-mx_width c planes is =
    let faces = c.args.flood.now.faces.now in
    let slabs = length c.args.flood.now.slabs.items in
    let inner = c.box_at-planes.result in
    let a : SFits w64 c.args.a = c.ranges.a in
    let f : SFits w64 c.args.f = c.ranges.f in
    let upright = simp to_z-of_z at c.box_at-planes.ensures.upright in
    subst (λ (w : Fraction). IsNarrow 20 (whole faces.last_x ⊗ w) c.body_at-all.result.mx.lo c.body_at-all.result.mx.hi) (same_bound c.args.a c.args.f inner planes upright is slabs faces)
    (narrow-wider (bound-more faces inner slabs (whole faces.last_x) (some_last faces)) c.body_at-all.ensures.mx_width)

pub returns-clause-mx_width : goal.returns-clause-mx_width
returns-clause-mx_width c planes is =
    let flood = c.args.flood.now in
    let faces = flood.faces.now in
    let slabs = length flood.slabs.items in
    let inner = c.box_at-planes.result in
    let a : SFits w64 c.args.a = c.ranges.a in
    let f : SFits w64 c.args.f = c.ranges.f in
    let upright = simp to_z-of_z at c.box_at-planes.ensures.upright in
    let some : 1 ≤ length flood.parts.items = not_empty c.is_empty.result _ _ c.is_empty.ensures c.if-is_empty.false flood.parts.ok.0 in
    subst (λ (w : Fraction). IsNarrow 20 (whole faces.last_x ⊗ w) c.sub-2.result.lo c.sub-2.result.hi) (same_bound c.args.a c.args.f inner planes upright is slabs faces)
    (by-kept (narrow-prop 20 _ c.sub-2.result.lo c.sub-2.result.hi) flood.limits flood.held (λ limits held.
    let lost = subst (λ (ps : List Part). AreLost faces inner slabs ps) (sym c.deref.ensures.value) (are-lost faces inner flood.slabs.items flood.parts.items some limits held flood.extents) in
    left-narrow faces inner slabs (whole faces.last_x) c.sub-2.ensures c.body_at-all.ensures.mx_width
    (c.lost_at-lost.ensures.mx_width (size_of inner) (reach_of faces inner) (lost_bound faces inner slabs (whole faces.last_x)) _ _ lost.reached lost.lengths)))

pub lost_at-lost-requires-clause-upright : goal.lost_at-lost-requires-clause-upright
lost_at-lost-requires-clause-upright c = any_level _ _ c.box_at-planes.result c.box_at-planes.ensures.upright
