use mathlib.Core.Path.{sym, ◌∙◌, ap, subst}
use mathlib.Core.List.{List}
use Rattle.std.proofs.lemmas.Int.{to_z-of_z}
use Rattle.std.specs.Int.{w128}
use mir.Val.{SFits}
use Rattle.exact_algebra.proofs.Fraction.{Fraction, ◌⊖◌, sign}
use Rattle.exact_algebra.proofs.Whole.{whole}
use Rattle.hull_model.specs.TriangleCut.{Triangle, is_above}
use Rattle.hull_model.specs.Waterplane.{Position}
use Rattle.plane_clip.specs.Clipped.{clip_by}
use Rattle.plane_clip.specs.Clips.{HoldsClip}
use Rattle.plane_clip.proofs.CornerCrossings.{place_fits}
use Rattle.plane_clip.proofs.ClipCases.{sides_aft, above_is}
use Rattle.plane_clip.proofs.clip.Clip.aft.Goals as goal

pub by_sides-requires-clause-ab : goal.by_sides-requires-clause-ab
by_sides-requires-clause-ab c =
    let part = c.args.part.now in
    let at : SFits w128 c.args.at = c.ranges.at in
    let a : SFits w128 part.a.x = place_fits part.a.x part.a.place in
    let b : SFits w128 part.b.x = place_fits part.b.x part.b.place in
    let k : SFits w128 part.c.x = place_fits part.c.x part.c.place in
    simp to_z-of_z (sides_aft c.args.at part.a.x part.b.x)

pub by_sides-requires-clause-bc : goal.by_sides-requires-clause-bc
by_sides-requires-clause-bc c =
    let part = c.args.part.now in
    let at : SFits w128 c.args.at = c.ranges.at in
    let a : SFits w128 part.a.x = place_fits part.a.x part.a.place in
    let b : SFits w128 part.b.x = place_fits part.b.x part.b.place in
    let k : SFits w128 part.c.x = place_fits part.c.x part.c.place in
    simp to_z-of_z (sides_aft c.args.at part.b.x part.c.x)

pub by_sides-requires-clause-ca : goal.by_sides-requires-clause-ca
by_sides-requires-clause-ca c =
    let part = c.args.part.now in
    let at : SFits w128 c.args.at = c.ranges.at in
    let a : SFits w128 part.a.x = place_fits part.a.x part.a.place in
    let b : SFits w128 part.b.x = place_fits part.b.x part.b.place in
    let k : SFits w128 part.c.x = place_fits part.c.x part.c.place in
    simp to_z-of_z (sides_aft c.args.at part.c.x part.a.x)

pub returns-clause-holds : goal.returns-clause-holds
returns-clause-holds c t h =
    let part = c.args.part.now in
    let at : SFits w128 c.args.at = c.ranges.at in
    let a : SFits w128 part.a.x = place_fits part.a.x part.a.place in
    let b : SFits w128 part.b.x = place_fits part.b.x part.b.place in
    let k : SFits w128 part.c.x = place_fits part.c.x part.c.place in
    let clipped = simp to_z-of_z at c.by_sides.ensures.holds in
    let side_a = ap (λ (x : Fraction). is_above (sign (whole c.args.at ⊖ x))) h.a.x ∙ above_is part.a.x c.args.at in
    let side_b = ap (λ (x : Fraction). is_above (sign (whole c.args.at ⊖ x))) h.b.x ∙ above_is part.b.x c.args.at in
    let side_c = ap (λ (x : Fraction). is_above (sign (whole c.args.at ⊖ x))) h.c.x ∙ above_is part.c.x c.args.at in
    subst (λ (ts : List (Triangle Position)). HoldsClip c.by_sides.result ts) (λ i. clip_by (sym side_a i) (sym side_b i) (sym side_c i) c.args.at t.a t.b t.c) (clipped t h)
