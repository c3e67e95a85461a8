use Rattle.std.proofs.Common.{◌≤◌, sym, subst, List, length, arith}
use Rattle.std.proofs.lemmas.Int.{ints, to_z-of_z}
use Rattle.std.specs.Int.{w64}
use Rattle.std.specs.List.{AllByRecursion}
use mir.Val.{SFits}
use Rattle.hull_model.specs.Flooded.{flooded_share}
use Rattle.hull_model.proofs.Magnitudes.{fits_64}
use Rattle.plane_clip.specs.declared.part.Part.{Part}
use Rattle.plane_clip.specs.Between.{HoldParts, IsPartWithin, clipped_face}
use Rattle.plane_clip.specs.Extents.{IsPartExtent}
use Rattle.compartment_loss.specs.Flooding.{IsPartIn, shared}
use Rattle.compartment_loss.proofs.Growth.{grows-more, all-both, on-ok}
use Rattle.compartment_loss.proofs.parts.push_face.Goals as goal

pub returns : goal.returns
returns c r within =
    let slab = c.args.slab.now in
    let limits = slab.limits in
    let aft : SFits w64 slab.aft = fits_64 _ (omega (arith, ints, limits.aft_end, limits.order, limits.fore_end)) in
    let fore : SFits w64 slab.fore = fits_64 _ (omega (arith, ints, limits.aft_end, limits.order, limits.fore_end)) in
    let us = clipped_face slab.aft slab.fore c.args.face.now in
    let holds : HoldParts c.parts_of.result.items us = simp to_z-of_z at c.parts_of.ensures.holds in
    let more = c.deref.result.now in
    let few : length more ≤ 4 = subst (λ (ps : List Part). length ps ≤ 4) (sym c.deref.ensures.0) c.parts_of.ensures.few in
    on-ok c.push_shares.result (grows-more r c.args.parts.now.items c.push_shares.new.parts.items (shared (flooded_share slab) us) (length more) 4 few)
    (c.push_shares.ensures r us (subst (λ (ps : List Part). HoldParts ps us) (sym c.deref.ensures.0) holds) (subst (λ (ps : List Part). AllByRecursion (IsPartIn r 2) ps) (sym c.deref.ensures.0)
    (all-both (IsPartWithin r.first r.last) (IsPartExtent r.half_breadth r.height 2) c.parts_of.result.items (c.parts_of.ensures.placed r.first r.last within.0) (c.parts_of.ensures.extent r.half_breadth r.height within.1))))
