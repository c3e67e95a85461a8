use mathlib.Core.Path.{sym, subst}
use mathlib.Core.Bool.{Bool}
use Rattle.std.proofs.lemmas.Int.{to_z-of_z}
use Rattle.std.specs.Int.{w128}
use mir.Val.{SFits}
use Rattle.plane_clip.specs.declared.clip.Clip.TheVariants.{One, Two}
use Rattle.plane_clip.specs.Clipped.{lone_by}
use Rattle.plane_clip.specs.Clips.{HoldsClip}
use Rattle.plane_clip.proofs.clip.Clip.alone.Goals as goal

pub returns-then-above-clause-holds : goal.returns-then-above-clause-holds
returns-then-above-clause-holds c t h =
    let at : SFits w128 c.args.at = c.ranges.at in
    let tip = simp to_z-of_z at c.tip.ensures.holds in
    subst (λ (u : Bool). HoldsClip (One c.tip.result) (lone_by u c.args.at t.a t.b t.c)) (sym c.if-above.true) (tip t h)

pub returns-else-above-clause-holds : goal.returns-else-above-clause-holds
returns-else-above-clause-holds c t h =
    let at : SFits w128 c.args.at = c.ranges.at in
    let second = simp to_z-of_z at c.behind_second.ensures.holds in
    let third = simp to_z-of_z at c.behind_third.ensures.holds in
    subst (λ (u : Bool). HoldsClip (Two c.behind_second.result c.behind_third.result) (lone_by u c.args.at t.a t.b t.c)) (sym c.if-above.false) (second t h, third t h)

pub returns-then-above-clause-extent : goal.returns-then-above-clause-extent
returns-then-above-clause-extent c y z k h = (c.tip.ensures.extent y z k h, tt)

pub returns-else-above-clause-extent : goal.returns-else-above-clause-extent
returns-else-above-clause-extent c y z k h = (c.behind_second.ensures.extent y z k h, (c.behind_third.ensures.extent y z k h, tt))
