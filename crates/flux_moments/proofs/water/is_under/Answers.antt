use Rattle.std.proofs.Common.{rules, pos, ◌<ℤ◌}
use Rattle.flux_moments.proofs.Waters.{reached_mirrored, above_nought}
use Rattle.flux_moments.proofs.water.is_under.Goals as goal

pub returns-then-is_above-clause-under : goal.returns-then-is_above-clause-under
returns-then-is_above-clause-under c t plane is =
    let near : pos 0 <ℤ c.depth_of-depth.result.lo = search rules in
    let far : pos 0 <ℤ c.depth_of-mirror.result.lo = search rules in
    (above_nought near (c.depth_of-depth.ensures.contains plane is), above_nought far (rw c.mirrored.ensures.same at (c.depth_of-mirror.ensures.contains plane is)))

pub returns-then-is_above-clause-clear : goal.returns-then-is_above-clause-clear
returns-then-is_above-clause-clear c b h is far =
    let end = c.depth_of-mirror.ensures.under b h is (rw c.mirrored.ensures.same (reached_mirrored b h c.args.node far.0)) (λ plane in_box. rw c.mirrored.ensures.same (far.1 plane in_box).1) in
    search rules

pub returns-else-is_above-clause-clear : goal.returns-else-is_above-clause-clear
returns-else-is_above-clause-clear c b h is far =
    let end = c.depth_of-depth.ensures.under b h is far.0 (λ plane in_box. (far.1 plane in_box).0) in
    search rules
