use Rattle.std.proofs.Common.{◌≡◌, pos, ◌*ℤ◌, w64, rules}
use Rattle.std.proofs.lemmas.Int.{to_z-of_z}
use mir.Val.{SFits}
use Rattle.floodable_length.proofs.Gaps.{longest_of, double, one_above, one_below}
use Rattle.floodable_length.proofs.Steps.{half-fits, double-fits, steps-fits}
use Rattle.floodable_length.proofs.search.reach_of.Goals as goal

pub returns : goal.returns
returns c ship is =
    let gap = c.args.gap.now in
    let half_step = c.args.lengths.now.half_step in
    let limits = c.args.lengths.now.limits in
    let next : SFits w64 gap.next = steps-fits gap.next (one_above c.requires.from c.requires.narrow) c.requires.most in
    let safe : SFits w64 gap.safe = steps-fits gap.safe c.requires.from (one_below c.requires.most c.requires.narrow) in
    let half : SFits w64 half_step = half-fits half_step limits.some limits.most in
    let step : SFits w64 (pos 2 *ℤ half_step) = double-fits half_step limits.some limits.most in
    let safe-2 : SFits w64 c.product.result = search rules in
    let next-2 : SFits w64 c.product-2.result = search rules in
    let of_safe : c.product.result ≡ gap.safe *ℤ (pos 2 *ℤ half_step) = simp to_z-of_z at c.product.ensures.value in
    let of_next : c.product-2.result ≡ gap.next *ℤ (pos 2 *ℤ half_step) = simp to_z-of_z at c.product-2.ensures.value in
    simp to_z-of_z (longest_of ship c.args.lengths.now gap is c.requires.narrow c.product.result c.product-2.result (double gap.safe half_step of_safe) (double gap.next half_step of_next))
