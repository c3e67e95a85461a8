use Rattle.std.proofs.lemmas.Int.{to_z-of_z}
use Rattle.std.specs.Int.{w64}
use Rattle.std.proofs.Common.{arith}
use mir.Val.{SFits}
use Rattle.exact_fraction.specs.Fraction.{fraction_of}
use Rattle.hull_model.proofs.Magnitudes.{fits_64}
use Rattle.hull_model.specs.LevelPlanes.{level_plane}
use Rattle.draft_bracket.proofs.Looks.{box_from, plane_is_in}
use Rattle.cross_curves.proofs.Boxes.{narrow_from}
use Rattle.cross_curves.proofs.cell.kn_between.Goals as goal

pub returns-clause-holds : goal.returns-clause-holds
returns-clause-holds c hull is are d lies at between =
    let drafts = c.args.drafts.now in
    let first : SFits w64 c.args.drafts.now.d1 = fits_64 _ (omega (arith, c.args.drafts.now.first_range)) in
    let last : SFits w64 c.args.drafts.now.d2 = fits_64 _ (omega (arith, c.args.drafts.now.last_range)) in
    let box = box_from c.in-Some.planes c.args.bracket.now drafts.d1 drafts.d2 _ _ (to_z-of_z w64 drafts.d1 first) (to_z-of_z w64 drafts.d2 last) c.in-Some.ensures.same in
    c.by_need.ensures.contains _ (c.measure-below.ensures.mv hull is are (level_plane d at) (plane_is_in c.in-Some.planes c.args.bracket.now drafts.d1 drafts.d2 box d lies at between))

pub returns-clause-narrow : goal.returns-clause-narrow
returns-clause-narrow c =
    let drafts = c.args.drafts.now in
    let first : SFits w64 c.args.drafts.now.d1 = fits_64 _ (omega (arith, c.args.drafts.now.first_range)) in
    let last : SFits w64 c.args.drafts.now.d2 = fits_64 _ (omega (arith, c.args.drafts.now.last_range)) in
    let box = box_from c.in-Some.planes c.args.bracket.now drafts.d1 drafts.d2 _ _ (to_z-of_z w64 drafts.d1 first) (to_z-of_z w64 drafts.d2 last) c.in-Some.ensures.same in
    narrow_from c.args.faces.now c.args.bracket.now (fraction_of c.args.need.now) drafts.d1 drafts.d2 c.by_need.result.lo c.by_need.result.hi c.in-Some.planes box
    (c.by_need.ensures.narrow _ c.measure-below.ensures.mv_width)
