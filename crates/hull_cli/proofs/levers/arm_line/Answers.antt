use Rattle.std.proofs.Common.{◌∙◌, refl, sym, arith}
use Rattle.std.specs.Int.{w64}
use Rattle.std.proofs.lemmas.Int.{to_z-of_z}
use mir.Val.{SFits}
use Rattle.hull_model.proofs.Magnitudes.{fits_64}
use Rattle.hull_cli.proofs.StabilityLines.{arm_line_is}
use Rattle.hull_cli.proofs.levers.arm_line.Goals as goal

pub returns-then-tells_sides-clause-line : goal.returns-then-tells_sides-clause-line
returns-then-tells_sides-clause-line c =
    let arm = c.arm_at.result.now in
    let d1 : SFits w64 arm.drafts.d1 = fits_64 _ (omega (arith, arm.drafts.first_range)) in
    let d2 : SFits w64 arm.drafts.d2 = fits_64 _ (omega (arith, arm.drafts.last_range)) in
    simp to_z-of_z (arm_line_is c.args.version c.args.arms.now c.args.degree arm c.arm_at.ensures.row c.lever_to-port.result c.lever_to-starboard.result
    c.lever_to-port.ensures.lever c.lever_to-starboard.ensures.lever _ (rw (sym c.tells_sides.ensures ∙ c.if-tells_sides.true) refl))

pub returns-else-tells_sides-clause-line : goal.returns-else-tells_sides-clause-line
returns-else-tells_sides-clause-line c =
    let arm = c.arm_at.result.now in
    let d1 : SFits w64 arm.drafts.d1 = fits_64 _ (omega (arith, arm.drafts.first_range)) in
    let d2 : SFits w64 arm.drafts.d2 = fits_64 _ (omega (arith, arm.drafts.last_range)) in
    simp to_z-of_z (arm_line_is c.args.version c.args.arms.now c.args.degree arm c.arm_at.ensures.row c.lever_to-port.result c.lever_to-starboard.result
    c.lever_to-port.ensures.lever c.lever_to-starboard.ensures.lever _ (rw (sym c.tells_sides.ensures ∙ c.if-tells_sides.false) refl))
