use Rattle.std.proofs.Common.{◌≡◌, ◌∙◌, sym, subst, List}
use Rattle.std.proofs.lemmas.Int.{to_z-of_z}
use Rattle.std.specs.Int.{w64, w128}
use mir.Val.{SFits}
use Rattle.hull_model.specs.TriangleCut.{Triangle}
use Rattle.hull_model.specs.Waterplane.{Position}
use Rattle.plane_clip.specs.Between.{HoldParts, unless_flat}
use Rattle.plane_clip.specs.Clipped.{clipped}
use Rattle.plane_clip.specs.Parts.{face_at}
use Rattle.plane_clip.proofs.Placed.{face-placed}
use Rattle.plane_clip.proofs.clipping.parts_of.Goals as goal

pub returns-else-is_flat-clause-holds : goal.returns-else-is_flat-clause-holds
returns-else-is_flat-clause-holds c =
    let aft : SFits w64 c.args.aft = c.ranges.aft in
    let fore : SFits w64 c.args.fore = c.ranges.fore in
    let first : SFits w128 c.from.result = record { sfits = c.from.type_inv } in
    let second : SFits w128 c.from-else-is_flat.result = record { sfits = c.from-else-is_flat.type_inv } in
    let aft_is : c.from.result ≡ c.args.aft = c.from.ensures ∙ to_z-of_z w64 c.args.aft aft in
    let fore_is : c.from-else-is_flat.result ≡ c.args.fore = c.from-else-is_flat.ensures ∙ to_z-of_z w64 c.args.fore fore in
    let holds = simp to_z-of_z at c.parts_between.ensures.holds in
    let standing = sym (sym c.is_flat.ensures ∙ c.if-is_flat.false) in
    subst (λ (ts : List (Triangle Position)). HoldParts c.parts_between.result.items ts)
    (λ i. unless_flat (standing i) (clipped (aft_is i) (fore_is i) (face_at c.args.face.now)))
    (holds (face_at c.args.face.now) c.of.ensures.holds)

pub returns-else-is_flat-clause-placed : goal.returns-else-is_flat-clause-placed
returns-else-is_flat-clause-placed c first last between =
    let aft : SFits w64 c.args.aft = c.ranges.aft in
    let fore : SFits w64 c.args.fore = c.ranges.fore in
    let from : SFits w128 c.from.result = record { sfits = c.from.type_inv } in
    let to : SFits w128 c.from-else-is_flat.result = record { sfits = c.from-else-is_flat.type_inv } in
    let holds = simp to_z-of_z at c.parts_between.ensures.holds in
    face-placed first last c.args.face.now c.requires.face c.from.result c.from-else-is_flat.result c.parts_between.result.items (holds (face_at c.args.face.now) c.of.ensures.holds) between

pub returns-else-is_flat-clause-extent : goal.returns-else-is_flat-clause-extent
returns-else-is_flat-clause-extent c y z inside = c.parts_between.ensures.extent y z 0 (c.of.ensures.extent y z inside)
