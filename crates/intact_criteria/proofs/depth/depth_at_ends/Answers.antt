use Rattle.std.proofs.Common.{rules, w64}
use Rattle.std.proofs.lemmas.Int.{to_z-of_z}
use Rattle.std.specs.Int.{w128}
use mir.Val.{SFits}
use Rattle.intact_criteria.proofs.DepthEnds.{lowered-fits, raised-fits, raised-small, place_fits, sum_of}
use Rattle.intact_criteria.proofs.depth.depth_at_ends.Goals as goal

pub overflow_add-result : goal.overflow_add-result
overflow_add-result c =
    let a : SFits w128 c.in_fine_units.result = search rules in
    let b : SFits w128 c.times.result = search rules in
    let d : SFits w128 c.times-2.result = search rules in
    let lowered = lowered-fits c.in_fine_units.result c.times.result c.times-2.result c.in_fine_units.ensures.size c.times.ensures.size c.times-2.ensures.size in
    simp to_z-of_z (raised-fits c.in_fine_units.result c.times.result c.times-2.result c.in_fine_units.ensures.size c.times.ensures.size c.times-2.ensures.size)

pub returns-clause-size : goal.returns-clause-size
returns-clause-size c =
    let a : SFits w128 c.in_fine_units.result = search rules in
    let b : SFits w128 c.times.result = search rules in
    let d : SFits w128 c.times-2.result = search rules in
    let lowered = lowered-fits c.in_fine_units.result c.times.result c.times-2.result c.in_fine_units.ensures.size c.times.ensures.size c.times-2.ensures.size in
    let raised = raised-fits c.in_fine_units.result c.times.result c.times-2.result c.in_fine_units.ensures.size c.times.ensures.size c.times-2.ensures.size in
    simp to_z-of_z (raised-small c.in_fine_units.result c.times.result c.times-2.result c.in_fine_units.ensures.size c.times.ensures.size c.times-2.ensures.size)

pub returns-clause-value : goal.returns-clause-value
returns-clause-value c =
    let a : SFits w128 c.in_fine_units.result = search rules in
    let b : SFits w128 c.times.result = search rules in
    let d : SFits w128 c.times-2.result = search rules in
    let level : SFits w64 c.args.level = c.ranges.level in
    let cosine : SFits w128 c.args.cosine = c.ranges.cosine in
    let sine : SFits w128 c.args.sine = c.ranges.sine in
    let place = place_fits c.args.opening.now in
    let y : SFits w64 c.args.opening.now.y = place.0 in
    let z : SFits w64 c.args.opening.now.z = place.1 in
    let lowered = lowered-fits c.in_fine_units.result c.times.result c.times-2.result c.in_fine_units.ensures.size c.times.ensures.size c.times-2.ensures.size in
    let raised = raised-fits c.in_fine_units.result c.times.result c.times-2.result c.in_fine_units.ensures.size c.times.ensures.size c.times-2.ensures.size in
    let first = simp to_z-of_z at c.in_fine_units.ensures.value in
    let second = simp to_z-of_z at c.times.ensures.value in
    let third = simp to_z-of_z at c.times-2.ensures.value in
    simp to_z-of_z (sum_of c.in_fine_units.result c.times.result c.times-2.result _ _ _ first second third)
