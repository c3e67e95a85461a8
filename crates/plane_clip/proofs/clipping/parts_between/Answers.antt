use Rattle.std.proofs.Common.{suc, ◌∙◌, sym, ap, subst, List, ◌++◌, ◌≤◌, length}
use Rattle.std.proofs.lemmas.Int.{to_z-of_z}
use Rattle.std.specs.Int.{w128}
use mir.Val.{SFits}
use Rattle.plane_clip.specs.declared.part.Part.{Part}
use Rattle.plane_clip.specs.Between.{HoldParts}
use Rattle.plane_clip.specs.Clipped.{clipped}
use Rattle.plane_clip.specs.Clips.{clip_parts}
use Rattle.plane_clip.specs.Extents.{IsPartExtent, ArePartExtents}
use Rattle.hull_model.proofs.Rounds.{append}
use Rattle.plane_clip.proofs.PartExtents.{extent_one, extent_two}
use Rattle.plane_clip.proofs.PartLists.{none-again, one-again, two-again, few-parts}
use Rattle.plane_clip.proofs.clipping.parts_between.Goals as goal

pub returns-in-Nothing-clause-holds : goal.returns-in-Nothing-clause-holds
returns-in-Nothing-clause-holds c t h =
    let aft : SFits w128 c.args.aft = c.ranges.aft in
    let first = simp to_z-of_z at c.forward.ensures.holds in
    subst (λ (ps : List Part). HoldParts ps (clipped c.args.aft c.args.fore t)) (sym c.new-parts.ensures) (none-again c.args.aft c.args.fore t c.forward.result (first t h) c.in-Nothing.is)

pub returns-in-One-clause-holds : goal.returns-in-One-clause-holds
returns-in-One-clause-holds c t h =
    let aft : SFits w128 c.args.aft = c.ranges.aft in
    let fore : SFits w128 c.args.fore = c.ranges.fore in
    let first = simp to_z-of_z at c.forward.ensures.holds in
    let again = simp to_z-of_z at c.aft.ensures.holds in
    subst (λ (ps : List Part). HoldParts ps (clipped c.args.aft c.args.fore t)) (sym (c.push_all.ensures ∙ ap (λ (xs : List Part). xs ++ clip_parts c.aft.result) c.new-parts.ensures))
    (one-again c.args.aft c.args.fore t c.forward.result c.in-One.part c.aft.result (first t h) c.in-One.is again)

pub returns-in-Two-clause-holds : goal.returns-in-Two-clause-holds
returns-in-Two-clause-holds c t h =
    let aft : SFits w128 c.args.aft = c.ranges.aft in
    let fore : SFits w128 c.args.fore = c.ranges.fore in
    let first = simp to_z-of_z at c.forward.ensures.holds in
    let again = simp to_z-of_z at c.aft-in-Two.ensures.holds in
    let more = simp to_z-of_z at c.aft-in-Two-2.ensures.holds in
    subst (λ (ps : List Part). HoldParts ps (clipped c.args.aft c.args.fore t))
    (sym (c.push_all-in-Two-2.ensures ∙ ap (λ (xs : List Part). xs ++ clip_parts c.aft-in-Two-2.result) (c.push_all-in-Two.ensures ∙ ap (λ (xs : List Part). xs ++ clip_parts c.aft-in-Two.result) c.new-parts.ensures)))
    (two-again c.args.aft c.args.fore t c.forward.result c.in-Two.part c.in-Two.other c.aft-in-Two.result c.aft-in-Two-2.result (first t h) c.in-Two.is again more)

pub returns-in-Two-clause-few : goal.returns-in-Two-clause-few
returns-in-Two-clause-few c =
    subst (λ (ps : List Part). length ps ≤ 4)
    (sym (c.push_all-in-Two-2.ensures ∙ ap (λ (xs : List Part). xs ++ clip_parts c.aft-in-Two-2.result) (c.push_all-in-Two.ensures ∙ ap (λ (xs : List Part). xs ++ clip_parts c.aft-in-Two.result) c.new-parts.ensures)))
    (few-parts c.aft-in-Two.result c.aft-in-Two-2.result)

pub returns-in-Nothing-clause-extent : goal.returns-in-Nothing-clause-extent
returns-in-Nothing-clause-extent c y z k h = subst (ArePartExtents y z (suc (suc k))) (sym c.new-parts.ensures) tt

pub returns-in-One-clause-extent : goal.returns-in-One-clause-extent
returns-in-One-clause-extent c y z k h =
    let first = extent_one y z (suc k) c.in-One.is (c.forward.ensures.extent y z k h) in
    subst (ArePartExtents y z (suc (suc k))) (sym (c.push_all.ensures ∙ ap (λ (xs : List Part). xs ++ clip_parts c.aft.result) c.new-parts.ensures))
    (c.aft.ensures.extent y z (suc k) first)

pub returns-in-Two-clause-extent : goal.returns-in-Two-clause-extent
returns-in-Two-clause-extent c y z k h =
    let first = extent_two y z (suc k) c.in-Two.is (c.forward.ensures.extent y z k h) in
    subst (ArePartExtents y z (suc (suc k)))
    (sym (c.push_all-in-Two-2.ensures ∙ ap (λ (xs : List Part). xs ++ clip_parts c.aft-in-Two-2.result) (c.push_all-in-Two.ensures ∙ ap (λ (xs : List Part). xs ++ clip_parts c.aft-in-Two.result) c.new-parts.ensures)))
    (append (IsPartExtent y z (suc (suc k))) (clip_parts c.aft-in-Two.result) (clip_parts c.aft-in-Two-2.result)
    (c.aft-in-Two.ensures.extent y z (suc k) first.0) (c.aft-in-Two-2.ensures.extent y z (suc k) first.1))
