use Rattle.std.proofs.Common.{◌∙◌, sym, inr}
use Rattle.std.proofs.lemmas.List.{append-nil}
use Rattle.std.proofs.lemmas.Result.{err_from_is_err_and}
use Rattle.csv.specs.Records.{fields_of}
use Rattle.offset_reader.specs.Rows.{rows_fault, rows_of}
use Rattle.offset_reader.proofs.RowFacts.{first_left, none_left}
use Rattle.offset_reader.proofs.row.rows_of.Goals as goal

pub returns-in_err-row-clause-err : goal.returns-in_err-row-clause-err
unfolding rows_fault
returns-in_err-row-clause-err c =
    let p = err_from_is_err_and c.from_residual.result c.from_residual.ensures.1 in
    let left = first_left fields_of c.loop-rest.rest.now c.record-item.result c.in-len1-up.len_at_least in
    let is = rw (left, sym c.record-item.is, c.in_err-row.ensures.err) at c.loop-rest.invariant.faults in
    rw (p.1, p.2) (inr (sym is))

pub returns-clause-ok : goal.returns-clause-ok
unfolding rows_fault rows_of
returns-clause-ok c =
    let none = none_left c.loop-rest.rest.now c.in_default.len_below in
    (sym (rw none at c.loop-rest.invariant.faults), sym (append-nil _) ∙ rw none at c.loop-rest.invariant.rows)
