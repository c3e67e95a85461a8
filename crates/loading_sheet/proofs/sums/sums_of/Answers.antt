use Rattle.std.proofs.Common.{◌+ℤ◌, arith}
use Rattle.std.proofs.lemmas.Int.{ints, to_z-of_z}
use Rattle.std.specs.Int.{w64}
use mir.Val.{SFits, to_z}
use Rattle.hull_model.proofs.Magnitudes.{fits_64}
use Rattle.loading_sheet.proofs.ItemParts.{item-parts}
use Rattle.loading_sheet.proofs.SumSteps.{item_step, small-within}
use Rattle.loading_sheet.proofs.sums.sums_of.Goals as goal

pub loop-rest-preserved : goal.loop-rest-preserved
loop-rest-preserved c =
    let along : SFits w64 c.moment-along.result = record { sfits = c.moment-along.type_inv } in
    let across : SFits w64 c.moment-across.result = record { sfits = c.moment-across.type_inv } in
    let height : SFits w64 c.moment-height.result = record { sfits = c.moment-height.type_inv } in
    let item = c.item-item.result in
    let parts = item-parts item.mass item.x item.y item.z item.free_surface item.limits in
    let x : SFits w64 item.x = fits_64 _ (omega (arith, ints, parts.aft, parts.fore)) in
    let y : SFits w64 item.y = fits_64 _ (omega (arith, parts.aside)) in
    let z : SFits w64 item.z = fits_64 _ (omega (arith, ints, parts.low, parts.high)) in
    let next = item_step c.args.items.now c.loop-rest.rest.now _ c.item-item.result c.loop-rest.mass (to_z w64 c.loop-rest.along-bits) (to_z w64 c.loop-rest.across-bits) (to_z w64 c.loop-rest.height-bits) c.loop-rest.free c.moment-along.result c.moment-across.result c.moment-height.result
    c.in-len1-up.len_at_least c.item-item.is (simp to_z-of_z at c.moment-along.ensures.value) (simp to_z-of_z at c.moment-across.ensures.value) (simp to_z-of_z at c.moment-height.ensures.value) c.loop-rest.invariant in
    let small = small-within _ _ _ _ _ next.within in
    let fits_along : SFits w64 ((to_z w64 c.loop-rest.along-bits) +ℤ c.moment-along.result) = fits_64 _ small.0 in
    let fits_across : SFits w64 ((to_z w64 c.loop-rest.across-bits) +ℤ c.moment-across.result) = fits_64 _ small.1 in
    let fits_height : SFits w64 ((to_z w64 c.loop-rest.height-bits) +ℤ c.moment-height.result) = fits_64 _ small.2 in
    simp to_z-of_z next
