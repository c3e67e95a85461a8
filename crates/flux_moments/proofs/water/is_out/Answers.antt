use Rattle.std.proofs.Common.{rules, pos, ◌≤ℤ◌}
use Rattle.flux_moments.proofs.Waters.{reached_mirrored, at_most_nought}
use Rattle.flux_moments.proofs.water.is_out.Goals as goal

pub returns-then-is_no_higher-clause-out : goal.returns-then-is_no_higher-clause-out
returns-then-is_no_higher-clause-out c t plane is =
    let near : c.depth_of-depth.result.hi ≤ℤ pos 0 = search rules in
    let far : c.depth_of-mirror.result.hi ≤ℤ pos 0 = search rules in
    (at_most_nought near (c.depth_of-depth.ensures.contains plane is), at_most_nought far (rw c.mirrored.ensures.same at (c.depth_of-mirror.ensures.contains plane is)))

pub returns-then-is_no_higher-clause-clear : goal.returns-then-is_no_higher-clause-clear
returns-then-is_no_higher-clause-clear c b h is far =
    let end = c.depth_of-mirror.ensures.out b h is (rw c.mirrored.ensures.same (reached_mirrored b h c.args.node far.0)) (λ plane in_box. rw c.mirrored.ensures.same (far.1 plane in_box).1) in
    search rules

pub returns-else-is_no_higher-clause-clear : goal.returns-else-is_no_higher-clause-clear
returns-else-is_no_higher-clause-clear c b h is far =
    let end = c.depth_of-depth.ensures.out b h is far.0 (λ plane in_box. (far.1 plane in_box).0) in
    search rules
