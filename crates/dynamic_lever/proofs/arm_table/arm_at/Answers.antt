use Rattle.std.proofs.Common.{◌≡◌, true, false, ℕ, subst}
use Rattle.exact_algebra.proofs.Fraction.{Fraction}
use Rattle.exact_fraction.specs.Fraction.{fraction_of}
use Rattle.angle_bounds.specs.Degrees.{IsDegreeBracket}
use Rattle.draft_bracket.specs.DraftBracket.{IsTooHeavy}
use Rattle.dynamic_lever.proofs.RowFacts.{levers_over}
use Rattle.dynamic_lever.proofs.arm_table.arm_at.Goals as goal

pub returns-in-Ok-clause-row : goal.returns-in-Ok-clause-row
returns-in-Ok-clause-row c =
    let bracket = c.bracket_of-bracket.result in
    let arm = c.arm_over.ensures in (
      bracket,
      subst (λ (k : ℕ). IsDegreeBracket k c.bracket_of-bracket.result.low.c c.bracket_of-bracket.result.low.s c.bracket_of-bracket.result.low.r c.bracket_of-bracket.result.high.c c.bracket_of-bracket.result.high.s c.bracket_of-bracket.result.high.r)
          c.in-Some.ensures.same c.bracket_of-bracket.ensures.bracket,
      levers_over c.args.faces.now c.args.loading.now c.args.water.now bracket (fraction_of c.need_of.result) c.need_of.ensures.same c.in-Ok.drafts c.in-Ok.ensures.drafts c.arm_over.result
          arm.drafts arm.gz arm.sep arm.gz_width arm.sep_width arm.gz_ends arm.sep_ends,
    )

pub returns-in-Ok-clause-too_heavy : goal.returns-in-Ok-clause-too_heavy
returns-in-Ok-clause-too_heavy c hull is are =
    subst (λ (v : Fraction). (false ≡ true → IsTooHeavy hull v) × (IsTooHeavy hull v → false ≡ true)) c.need_of.ensures.same (c.in-Ok.ensures.too_heavy hull is are)
