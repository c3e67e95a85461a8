use Rattle.std.proofs.Common.{arith}
use Rattle.std.proofs.lemmas.Int.{to_z-of_z}
use Rattle.std.specs.Int.{w64}
use mir.Val.{SFits}
use Rattle.hull_model.proofs.Magnitudes.{fits_64}
use Rattle.hull_model.specs.LevelPlanes.{level_plane}
use Rattle.draft_bracket.proofs.Looks.{box_from, plane_is_in}
use Rattle.dynamic_lever.proofs.Boxes.{narrow_levers}
use Rattle.dynamic_lever.proofs.arm_table.arm_over.Goals as goal

pub returns-clause-gz : goal.returns-clause-gz
returns-clause-gz c hull is are d lies at between =
    let drafts = c.args.drafts in
    let first : SFits w64 c.args.drafts.d1 = fits_64 _ (omega (arith, c.args.drafts.first_range)) in
    let last : SFits w64 c.args.drafts.d2 = fits_64 _ (omega (arith, c.args.drafts.last_range)) in
    let box = box_from c.in-Some.planes c.args.bracket.now drafts.d1 drafts.d2 _ _ (to_z-of_z w64 drafts.d1 first) (to_z-of_z w64 drafts.d2 last) c.in-Some.ensures.same in
    c.levers_in-levers.ensures.gz hull is are (level_plane d at) (plane_is_in c.in-Some.planes c.args.bracket.now drafts.d1 drafts.d2 box d lies at between)

pub returns-clause-sep : goal.returns-clause-sep
returns-clause-sep c hull is are d lies at between =
    let drafts = c.args.drafts in
    let first : SFits w64 c.args.drafts.d1 = fits_64 _ (omega (arith, c.args.drafts.first_range)) in
    let last : SFits w64 c.args.drafts.d2 = fits_64 _ (omega (arith, c.args.drafts.last_range)) in
    let box = box_from c.in-Some.planes c.args.bracket.now drafts.d1 drafts.d2 _ _ (to_z-of_z w64 drafts.d1 first) (to_z-of_z w64 drafts.d2 last) c.in-Some.ensures.same in
    c.levers_in-levers.ensures.sep hull is are (level_plane d at) (plane_is_in c.in-Some.planes c.args.bracket.now drafts.d1 drafts.d2 box d lies at between)

pub returns-clause-gz_width : goal.returns-clause-gz_width
returns-clause-gz_width c =
    let drafts = c.args.drafts in
    let first : SFits w64 c.args.drafts.d1 = fits_64 _ (omega (arith, c.args.drafts.first_range)) in
    let last : SFits w64 c.args.drafts.d2 = fits_64 _ (omega (arith, c.args.drafts.last_range)) in
    let box = box_from c.in-Some.planes c.args.bracket.now drafts.d1 drafts.d2 _ _ (to_z-of_z w64 drafts.d1 first) (to_z-of_z w64 drafts.d2 last) c.in-Some.ensures.same in
    narrow_levers c.args.faces.now c.args.loading.now c.args.water.now c.args.bracket.now drafts.d1 drafts.d2 c.in-Some.planes box c.levers_in-levers.result.gz c.levers_in-levers.ensures.gz_width

pub returns-clause-sep_width : goal.returns-clause-sep_width
returns-clause-sep_width c =
    let drafts = c.args.drafts in
    let first : SFits w64 c.args.drafts.d1 = fits_64 _ (omega (arith, c.args.drafts.first_range)) in
    let last : SFits w64 c.args.drafts.d2 = fits_64 _ (omega (arith, c.args.drafts.last_range)) in
    let box = box_from c.in-Some.planes c.args.bracket.now drafts.d1 drafts.d2 _ _ (to_z-of_z w64 drafts.d1 first) (to_z-of_z w64 drafts.d2 last) c.in-Some.ensures.same in
    narrow_levers c.args.faces.now c.args.loading.now c.args.water.now c.args.bracket.now drafts.d1 drafts.d2 c.in-Some.planes box c.levers_in-levers.result.sep c.levers_in-levers.ensures.sep_width

pub returns-clause-gz_ends : goal.returns-clause-gz_ends
returns-clause-gz_ends c = c.levers_in-levers.ensures.gz_ends

pub returns-clause-sep_ends : goal.returns-clause-sep_ends
returns-clause-sep_ends c = c.levers_in-levers.ensures.sep_ends
