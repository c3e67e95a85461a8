use Rattle.std.proofs.Common.{◌∙◌, ap, ℤ, ◌+ℤ◌, ◌-ℤ◌, arith}
use Rattle.std.proofs.lemmas.Int.{to_z-of_z}
use Rattle.outward_interval.specs.Laws.{difference_contains, difference_width}
use Rattle.damage_box.proofs.Balanced as Balanced
use Rattle.damage_box.proofs.moments.over_last.Goals as goal

pub sub-requires : goal.sub-requires
sub-requires c = (omega arith, Balanced.first_difference (Balanced.wider 122 (omega arith) c.at_place.ensures.ends) c.requires.mx)

pub sub-requires-2 : goal.sub-requires-2
sub-requires-2 c = (omega arith, Balanced.second_difference (Balanced.wider 122 (omega arith) c.at_place.ensures.ends) c.requires.mx c.sub.ensures c.requires.owed)

pub returns-clause-contains : goal.returns-clause-contains
returns-clause-contains c v m o h k l =
    let at = simp (to_z-of_z, c.ranges.last_x) at c.at_place.ensures.contains in
    difference_contains 20 _ _ _ _ _ _ _ o c.sub-2.ensures (difference_contains 20 _ _ _ _ _ _ _ m c.sub.ensures (at v h) k) l

pub returns-clause-width : goal.returns-clause-width
returns-clause-width c =
    let at = simp (to_z-of_z, c.ranges.last_x) at c.at_place.ensures.width in
    difference_width c.sub.result.lo c.sub.result.hi c.args.owed.lo c.args.owed.hi c.sub-2.result.lo c.sub-2.result.hi c.sub-2.ensures ∙ ap (λ (z : ℤ). z +ℤ (c.args.owed.hi -ℤ c.args.owed.lo)) (difference_width c.at_place.result.lo c.at_place.result.hi c.args.mx.lo c.args.mx.hi c.sub.result.lo c.sub.result.hi c.sub.ensures ∙ ap (λ (z : ℤ). z +ℤ (c.args.mx.hi -ℤ c.args.mx.lo)) at)
