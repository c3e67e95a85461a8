use Rattle.std.proofs.Common.{◌≡◌, true, false, ℕ, subst}
use Rattle.exact_algebra.proofs.Fraction.{Fraction}
use Rattle.exact_fraction.specs.Fraction.{fraction_of}
use Rattle.angle_bounds.specs.Degrees.{IsDegreeBracket}
use Rattle.draft_bracket.specs.DraftBracket.{IsTooHeavy}
use Rattle.dynamic_lever.proofs.RowFacts.{sharp_displaced}
use Rattle.dynamic_lever.proofs.standing.upright.Goals as goal

pub row_over-requires-clause-degree : goal.row_over-requires-clause-degree
row_over-requires-clause-degree c =
    subst (λ (k : ℕ). IsDegreeBracket k c.bracket_of-bracket.result.low.c c.bracket_of-bracket.result.low.s c.bracket_of-bracket.result.low.r c.bracket_of-bracket.result.high.c c.bracket_of-bracket.result.high.s c.bracket_of-bracket.result.high.r)
    c.in-Some.ensures.same c.bracket_of-bracket.ensures.bracket

pub row_over-requires-clause-sharp : goal.row_over-requires-clause-sharp
row_over-requires-clause-sharp c =
    sharp_displaced c.args.faces.now c.args.loading.now c.args.water.now c.bracket_of-bracket.result (fraction_of c.need_of.result) c.need_of.ensures.same c.in-Ok.drafts c.in-Ok.ensures.drafts

pub returns-in-Ok-clause-row : goal.returns-in-Ok-clause-row
returns-in-Ok-clause-row c = (
  c.bracket_of-bracket.result,
  subst (λ (k : ℕ). IsDegreeBracket k c.bracket_of-bracket.result.low.c c.bracket_of-bracket.result.low.s c.bracket_of-bracket.result.low.r c.bracket_of-bracket.result.high.c c.bracket_of-bracket.result.high.s c.bracket_of-bracket.result.high.r)
      c.in-Some.ensures.same c.bracket_of-bracket.ensures.bracket,
  c.row_over.ensures,
)

pub returns-in-Ok-clause-too_heavy : goal.returns-in-Ok-clause-too_heavy
returns-in-Ok-clause-too_heavy c hull is are =
    subst (λ (v : Fraction). (false ≡ true → IsTooHeavy hull v) × (IsTooHeavy hull v → false ≡ true)) c.need_of.ensures.same (c.in-Ok.ensures.too_heavy hull is are)
