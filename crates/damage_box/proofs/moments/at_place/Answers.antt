use Rattle.std.proofs.Common.{◌≡◌, ◌∙◌, ◌-ℤ◌}
use Rattle.std.proofs.lemmas.Int.{to_z-of_z}
use Rattle.std.specs.Int.{w64, w128}
use mir.Val.{to_z, of_z}
use Rattle.damage_box.proofs.Balanced as Balanced
use Rattle.damage_box.proofs.moments.at_place.Goals as goal

pub returns-clause-ends : goal.returns-clause-ends
returns-clause-ends c =
    let same : to_z w128 (of_z w128 c.from.result) ≡ c.args.x = to_z-of_z w128 c.from.result (record { sfits = c.from.type_inv }) ∙ c.from.ensures ∙ to_z-of_z w64 c.args.x c.ranges.x in
    Balanced.times_ends c.args.x _ c.requires.place same c.requires.volume c.times_whole.ensures.ends

pub returns-clause-contains : goal.returns-clause-contains
returns-clause-contains c v h =
    let same : to_z w128 (of_z w128 c.from.result) ≡ c.args.x = to_z-of_z w128 c.from.result (record { sfits = c.from.type_inv }) ∙ c.from.ensures ∙ to_z-of_z w64 c.args.x c.ranges.x in
    Balanced.times_contains c.args.x _ v same (c.times_whole.ensures.contains v h)

pub returns-clause-width : goal.returns-clause-width
returns-clause-width c =
    let same : to_z w128 (of_z w128 c.from.result) ≡ c.args.x = to_z-of_z w128 c.from.result (record { sfits = c.from.type_inv }) ∙ c.from.ensures ∙ to_z-of_z w64 c.args.x c.ranges.x in
    Balanced.times_width c.args.x _ (c.times_whole.result.hi -ℤ c.times_whole.result.lo) (c.args.volume.hi -ℤ c.args.volume.lo) c.requires.place same c.times_whole.ensures.width
