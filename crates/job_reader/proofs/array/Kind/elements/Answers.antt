use Rattle.std.proofs.Common.{sym, ◌∙◌, le-leb, refl}
use Rattle.std.proofs.lemmas.Bool.{lt-leb}
use Rattle.job_reader.proofs.Elements.{elements_are, array_fault_is}
use Rattle.job_reader.proofs.array.Kind.elements.Goals as goal

pub returns-then-not-are_of-clause-err : goal.returns-then-not-are_of-clause-err
returns-then-not-are_of-clause-err c =
    let found = rw c.in-Some.is at (sym c.as_array.ensures) in
    let other = rw c.as_slice-values.ensures.value at (sym c.are_of.ensures ∙ c.if-not-are_of.true) in
    array_fault_is c.args.self c.args.key c.args.count c.args.entry _ c.in-Some.array.now.items found ∙ rw other refl

pub returns-then-values-count-clause-err : goal.returns-then-values-count-clause-err
returns-then-values-count-clause-err c =
    let found = rw c.in-Some.is at (sym c.as_array.ensures) in
    let all = rw c.as_slice-values.ensures.value at (sym c.are_of.ensures ∙ c.if-not-are_of.false) in
    let long = lt-leb _ _ (rw (c.as_slice-values.ensures.value) at c.if-values-count.true) in
    array_fault_is c.args.self c.args.key c.args.count c.args.entry _ c.in-Some.array.now.items found ∙ rw (all, long) refl

pub returns-clause-ok : goal.returns-clause-ok
returns-clause-ok c =
    let found = rw c.in-Some.is at (sym c.as_array.ensures) in
    let all = rw c.as_slice-values.ensures.value at (sym c.are_of.ensures ∙ c.if-not-are_of.false) in
    let short = le-leb _ _ (rw (c.as_slice-values.ensures.value) at c.if-values-count.false) in
    array_fault_is c.args.self c.args.key c.args.count c.args.entry _ c.in-Some.array.now.items found ∙ rw (all, short) refl

pub returns-clause-same : goal.returns-clause-same
returns-clause-same c =
    let found = rw c.in-Some.is at (sym c.as_array.ensures) in
    rw c.as_slice-values.ensures.value (sym (elements_are _ c.in-Some.array.now.items found))
