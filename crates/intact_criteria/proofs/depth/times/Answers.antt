use Rattle.std.proofs.Common.{◌≡◌, ap, rules, ◌*ℤ◌, w64}
use Rattle.std.proofs.lemmas.Int.{to_z-of_z}
use Rattle.std.specs.Int.{w128}
use mir.Val.{SFits}
use Rattle.intact_criteria.proofs.DepthEnds.{times-fits, times-small}
use Rattle.intact_criteria.proofs.depth.times.Goals as goal

pub returns-clause-value : goal.returns-clause-value
returns-clause-value c =
    let part : SFits w128 c.args.part = c.ranges.part in
    let distance : SFits w64 c.args.distance = c.ranges.distance in
    let from : SFits w128 c.from.result = search rules in
    let same : c.from.result ≡ c.args.distance = simp to_z-of_z at c.from.ensures in
    let fits : SFits w128 (c.args.part *ℤ c.from.result) = rw same (times-fits c.args.part c.args.distance c.requires.part c.requires.distance) in
    simp to_z-of_z (ap (λ n. c.args.part *ℤ n) same)

pub returns-clause-size : goal.returns-clause-size
returns-clause-size c =
    let part : SFits w128 c.args.part = c.ranges.part in
    let distance : SFits w64 c.args.distance = c.ranges.distance in
    let from : SFits w128 c.from.result = search rules in
    let same : c.from.result ≡ c.args.distance = simp to_z-of_z at c.from.ensures in
    let fits : SFits w128 (c.args.part *ℤ c.from.result) = rw same (times-fits c.args.part c.args.distance c.requires.part c.requires.distance) in
    simp to_z-of_z (rw same (times-small c.args.part c.args.distance c.requires.part c.requires.distance))
