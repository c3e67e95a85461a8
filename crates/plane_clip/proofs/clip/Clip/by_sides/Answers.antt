use mathlib.Core.Path.{sym, ◌∙◌, subst}
use mathlib.Core.List.{List}
use Rattle.std.proofs.lemmas.Int.{to_z-of_z}
use Rattle.std.specs.Int.{w128}
use mir.Val.{SFits}
use Rattle.hull_model.specs.TriangleCut.{Triangle, triangle}
use Rattle.hull_model.specs.Waterplane.{Position}
use Rattle.plane_clip.specs.Clips.{HoldsClip}
use Rattle.plane_clip.proofs.PartExtents.{part-wider}
use Rattle.plane_clip.proofs.ClipCases.{lone_first, lone_second, lone_third, turned_way, way_of_sides, same_by, differ_by, unlike_by, moved}
use Rattle.plane_clip.proofs.clip.Clip.by_sides.Goals as goal

pub alone-requires-then-a-c-clause-second : goal.alone-requires-then-a-c-clause-second
alone-requires-then-a-c-clause-second c =
    let at : SFits w128 c.args.at = c.ranges.at in
    let part = c.args.part.now in
    let corners = c.second.ensures.corners in
    simp to_z-of_z (moved c.args.at part.b part.c c.second.result.a c.second.result.b corners.0 corners.1
    (way_of_sides c.args.at part.b.x part.c.x c.args.b c.args.c c.requires.bc (differ_by c.args.b c.args.c c.if-b-c.false)))

pub alone-requires-then-a-c-clause-third : goal.alone-requires-then-a-c-clause-third
alone-requires-then-a-c-clause-third c =
    let at : SFits w128 c.args.at = c.ranges.at in
    let part = c.args.part.now in
    let corners = c.second.ensures.corners in
    simp to_z-of_z (moved c.args.at part.b part.a c.second.result.a c.second.result.c corners.0 corners.2
    (turned_way c.args.at part.a.x part.b.x (way_of_sides c.args.at part.a.x part.b.x c.args.a c.args.b c.requires.ab (λ e. differ_by c.args.b c.args.c c.if-b-c.false (sym e ∙ same_by c.args.a c.args.c c.if-a-c.true)))))

pub alone-requires-else-a-c-clause-second : goal.alone-requires-else-a-c-clause-second
alone-requires-else-a-c-clause-second c =
    let at : SFits w128 c.args.at = c.ranges.at in
    let part = c.args.part.now in
    let first = c.second-else-a-c.ensures.corners in
    let corners = c.second-else-a-c-2.ensures.corners in
    simp to_z-of_z (moved c.args.at part.c part.a c.second-else-a-c-2.result.a c.second-else-a-c-2.result.b (corners.0 ∙ first.1) (corners.1 ∙ first.2)
    (way_of_sides c.args.at part.c.x part.a.x c.args.c c.args.a c.requires.ca (λ e. differ_by c.args.a c.args.c c.if-a-c.false (sym e))))

pub alone-requires-else-a-c-clause-third : goal.alone-requires-else-a-c-clause-third
alone-requires-else-a-c-clause-third c =
    let at : SFits w128 c.args.at = c.ranges.at in
    let part = c.args.part.now in
    let first = c.second-else-a-c.ensures.corners in
    let corners = c.second-else-a-c-2.ensures.corners in
    simp to_z-of_z (moved c.args.at part.c part.b c.second-else-a-c-2.result.a c.second-else-a-c-2.result.c (corners.0 ∙ first.1) (corners.2 ∙ first.0)
    (turned_way c.args.at part.b.x part.c.x (way_of_sides c.args.at part.b.x part.c.x c.args.b c.args.c c.requires.bc (differ_by c.args.b c.args.c c.if-b-c.false))))

pub returns-then-a-b-clause-holds : goal.returns-then-a-b-clause-holds
returns-then-a-b-clause-holds c t h =
    let at : SFits w128 c.args.at = c.ranges.at in
    let alone = simp to_z-of_z at c.alone.ensures.holds in
    subst (λ (ts : List (Triangle Position)). HoldsClip c.alone.result ts)
    (sym (lone_first c.args.a c.args.b c.args.c c.args.at t.a t.b t.c (same_by c.args.b c.args.c c.if-b-c.true) (unlike_by c.args.a c.args.b c.if-a-b.true)))
    (alone t h)

pub returns-then-a-c-clause-holds : goal.returns-then-a-c-clause-holds
returns-then-a-c-clause-holds c t h =
    let at : SFits w128 c.args.at = c.ranges.at in
    let alone = simp to_z-of_z at c.alone-then-a-c.ensures.holds in
    subst (λ (ts : List (Triangle Position)). HoldsClip c.alone-then-a-c.result ts)
    (sym (lone_second c.args.a c.args.b c.args.c c.args.at t.a t.b t.c (same_by c.args.a c.args.c c.if-a-c.true) (differ_by c.args.b c.args.c c.if-b-c.false)))
    (alone (triangle t.b t.c t.a) (c.second.ensures.holds t h))

pub returns-else-a-c-clause-holds : goal.returns-else-a-c-clause-holds
returns-else-a-c-clause-holds c t h =
    let at : SFits w128 c.args.at = c.ranges.at in
    let alone = simp to_z-of_z at c.alone-else-a-c.ensures.holds in
    subst (λ (ts : List (Triangle Position)). HoldsClip c.alone-else-a-c.result ts)
    (sym (lone_third c.args.a c.args.b c.args.c c.args.at t.a t.b t.c (differ_by c.args.b c.args.c c.if-b-c.false) (differ_by c.args.a c.args.c c.if-a-c.false)))
    (alone (triangle t.c t.a t.b) (c.second-else-a-c-2.ensures.holds (triangle t.b t.c t.a) (c.second-else-a-c.ensures.holds t h)))

pub returns-then-a-clause-extent : goal.returns-then-a-clause-extent
returns-then-a-clause-extent c y z k h = (part-wider y z k h, tt)

pub returns-then-a-c-clause-extent : goal.returns-then-a-c-clause-extent
returns-then-a-c-clause-extent c y z k h = c.alone-then-a-c.ensures.extent y z k (c.second.ensures.extent y z k h)

pub returns-else-a-c-clause-extent : goal.returns-else-a-c-clause-extent
returns-else-a-c-clause-extent c y z k h = c.alone-else-a-c.ensures.extent y z k (c.second-else-a-c-2.ensures.extent y z k (c.second-else-a-c.ensures.extent y z k h))
