use Rattle.std.proofs.Common.{◌≡◌, true, false, ℕ, subst, arith}
use Rattle.std.specs.Int.{w64}
use Rattle.std.proofs.lemmas.Int.{to_z-of_z}
use mir.Val.{SFits}
use Rattle.exact_algebra.proofs.Fraction.{Fraction}
use Rattle.exact_fraction.specs.Fraction.{fraction_of}
use Rattle.draft_bracket.specs.DraftBracket.{IsOfDegree, IsTooHeavy}
use Rattle.hull_model.proofs.Magnitudes.{fits_64}
use Rattle.hull_cli.proofs.CrossLines.{cross_line_is}
use Rattle.hull_cli.proofs.cross.cross_line.Goals as goal

pub returns-in-Ok-clause-line : goal.returns-in-Ok-clause-line
returns-in-Ok-clause-line c hull is are =
    let cell = c.in-Ok.cell in
    let d1 : SFits w64 cell.drafts.d1 = fits_64 _ (omega (arith, cell.drafts.first_range)) in
    let d2 : SFits w64 cell.drafts.d2 = fits_64 _ (omega (arith, cell.drafts.last_range)) in
    let degrees = subst (λ (k : ℕ). IsOfDegree k c.bracket_of-bracket.result) c.in-Some.ensures.same c.bracket_of-bracket.ensures.bracket in
    simp to_z-of_z (cross_line_is hull c.args.faces.now are c.bracket_of-bracket.result c.args.water.now c.args.mass c.args.degree degrees
    (fraction_of c.need_of.result) c.need_of.ensures.same cell.drafts.d1 cell.drafts.d2 cell.kn c.figure.result
    (c.in-Ok.ensures.drafts hull is are) (c.in-Ok.ensures.holds hull is are) c.in-Ok.ensures.narrow c.figure.ensures)

pub returns-in-Ok-clause-too_heavy : goal.returns-in-Ok-clause-too_heavy
returns-in-Ok-clause-too_heavy c hull is are =
    subst (λ (v : Fraction). (false ≡ true → IsTooHeavy hull v) × (IsTooHeavy hull v → false ≡ true)) c.need_of.ensures.same (c.in-Ok.ensures.too_heavy hull is are)

pub returns-in-Err-clause-too_heavy : goal.returns-in-Err-clause-too_heavy
returns-in-Err-clause-too_heavy c hull is are =
    subst (λ (v : Fraction). (true ≡ true → IsTooHeavy hull v) × (IsTooHeavy hull v → true ≡ true)) c.need_of.ensures.same (c.in-Err.ensures.too_heavy hull is are)
