use Rattle.std.proofs.Common.{sym, ◌∙◌, inr}
use Rattle.toml.specs.View.{view}
use Rattle.job_reader.specs.Limits.{is_from}
use Rattle.job_reader.specs.Values.{is_number_within, number_in}
use Rattle.job_reader.proofs.Ranges.{all_imply, number_in_range}
use Rattle.job_reader.proofs.Elements.{wholes_range, wholes_none, wholes_are}
use Rattle.job_reader.proofs.rule.Wholes.read.Goals as goal

pub returns-then-not-are_within-clause-err : goal.returns-then-not-are_within-clause-err
returns-then-not-are_within-clause-err c =
    let found = rw c.in-Some.is at (sym c.value_at.ensures) in
    inr (wholes_range c.args.self.now c.args.entry _ _ c.in_ok-values.values.now found c.in_ok-values.ensures.ok c.in_ok-values.ensures.same (sym c.are_within.ensures ∙ c.if-not-are_within.true))

pub returns-clause-ok : goal.returns-clause-ok
returns-clause-ok c =
    let found = rw c.in-Some.is at (sym c.value_at.ensures) in
    wholes_none c.args.self.now c.args.entry _ _ c.in_ok-values.values.now found c.in_ok-values.ensures.ok c.in_ok-values.ensures.same (sym c.are_within.ensures ∙ c.if-not-are_within.false)

pub returns-clause-value : goal.returns-clause-value
returns-clause-value c =
    let found = rw c.in-Some.is at (sym c.value_at.ensures) in
    c.in_ok-numbers_in.ensures ∙ wholes_are c.args.self.now _ _ c.in_ok-values.values.now found c.in_ok-values.ensures.same

pub returns-clause-range : goal.returns-clause-range
returns-clause-range c =
    let least = c.args.self.now.least in
    let most = c.args.self.now.most in
    rw c.in_ok-numbers_in.ensures (all_imply (λ v. is_number_within least most (view v)) (is_from least most) (λ v. number_in (view v)) (λ v h. number_in_range least most (view v) h) c.in_ok-values.values.now (sym c.are_within.ensures ∙ c.if-not-are_within.false))
