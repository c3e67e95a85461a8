use Rattle.std.proofs.Common.{sym, ◌∙◌, inr}
use Rattle.job_reader.proofs.Elements.{names_other, names_none, names_are}
use Rattle.job_reader.proofs.key.Key.read_names.Goals as goal

pub returns-then-not-are_names-clause-err : goal.returns-then-not-are_names-clause-err
returns-then-not-are_names-clause-err c =
    let found = rw c.in-Some.is at (sym c.value_at.ensures) in
    inr (names_other c.args.self c.args.count c.args.entry _ _ c.in_ok-values.values.now found c.in_ok-values.ensures.ok c.in_ok-values.ensures.same (sym c.are_names.ensures ∙ c.if-not-are_names.true))

pub returns-clause-ok : goal.returns-clause-ok
returns-clause-ok c =
    let found = rw c.in-Some.is at (sym c.value_at.ensures) in
    names_none c.args.self c.args.count c.args.entry _ _ c.in_ok-values.values.now found c.in_ok-values.ensures.ok c.in_ok-values.ensures.same (sym c.are_names.ensures ∙ c.if-not-are_names.false)

pub returns-clause-value : goal.returns-clause-value
returns-clause-value c =
    let found = rw c.in-Some.is at (sym c.value_at.ensures) in
    c.in_ok-names_in.ensures ∙ names_are c.args.self _ _ c.in_ok-values.values.now found c.in_ok-values.ensures.same
