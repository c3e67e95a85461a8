use Rattle.std.proofs.Common.{◌≡◌}
use Rattle.std.proofs.lemmas.Int.{to_z-of_z}
use Rattle.std.specs.Int.{w64, w128}
use mir.Val.{SFits}
use Rattle.outward_interval.specs.Laws.{sum_contains}
use Rattle.outward_interval.proofs.Narrow.{narrow-sum}
use Rattle.dynamic_lever.proofs.CentreLaws.{centre_narrow}
use Rattle.dynamic_lever.proofs.centre.weighed.Goals as goal

pub returns-clause-contains : goal.returns-clause-contains
returns-clause-contains c x y h k =
    let across : SFits w64 c.args.across = c.ranges.across in
    let height : SFits w128 c.from.result = record { sfits = c.from.type_inv } in
    let distance : SFits w128 c.from-2.result = record { sfits = c.from-2.type_inv } in
    let mass : SFits w128 c.from-3.result = record { sfits = c.from-3.type_inv } in
    let same : c.from-2.result ≡ c.args.across = simp to_z-of_z at c.from-2.ensures in
    let up = rw c.from.ensures at (simp to_z-of_z at (c.times-height.ensures.contains x h)) in
    let aside = rw same at (simp to_z-of_z at (c.times-distance.ensures.contains y k)) in
    rw c.from-3.ensures at (simp to_z-of_z at (c.over_mass.ensures.contains _ (sum_contains 40 _ _ _ _ _ _ _ _ c.add.ensures up aside)))

pub returns-clause-narrow : goal.returns-clause-narrow
returns-clause-narrow c e h k =
    let across : SFits w64 c.args.across = c.ranges.across in
    let height : SFits w128 c.from.result = record { sfits = c.from.type_inv } in
    let distance : SFits w128 c.from-2.result = record { sfits = c.from-2.type_inv } in
    let mass : SFits w128 c.from-3.result = record { sfits = c.from-3.type_inv } in
    let same : c.from-2.result ≡ c.args.across = simp to_z-of_z at c.from-2.ensures in
    let up = rw c.from.ensures at (simp to_z-of_z at (c.times-height.ensures.narrow e h)) in
    let aside = rw same at (simp to_z-of_z at (c.times-distance.ensures.narrow e k)) in
    centre_narrow c.args.loading.now e c.args.across c.requires.across (rw c.from-3.ensures at (simp to_z-of_z at (c.over_mass.ensures.narrow _ (narrow-sum c.add.ensures up aside))))
