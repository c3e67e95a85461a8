use Rattle.std.proofs.Common.{refl, ap, ◌∙◌, ◌+◌, ◌∷◌, [], inl, inr}
use Rattle.std.proofs.lemmas.List.{map_more, length-append}
use Rattle.std.proofs.lemmas.Result.{err_from_is_err_and}
use Rattle.job_reader.specs.Entries.{SayAll}
use Rattle.job_reader.proofs.EntryFacts.{say_more, seen}
use Rattle.job_reader.proofs.Firsts.{goes_on, stops, ends}
use Rattle.job_reader.proofs.entry.entries_in.Goals as goal

pub loop-table-init : goal.loop-table-init
unfolding SayAll
loop-table-init g c = rw c.new-entries.ensures.items (record { count = refl; few = refl; says = tt; sound = refl })

pub returns-in_err-read-clause-err : goal.returns-in_err-read-clause-err
returns-in_err-read-clause-err g c =
    let p = err_from_is_err_and c.from_residual.result c.from_residual.ensures.1 in
    rw (p.1, p.2) (elim c.in_err-read.ensures.err [
      | inl memory ↦ inl memory
      | inr some ↦ inr (stops seen (λ n before t. g.E.Entry.fault c.args.version n t) c.args.tables.now c.loop-table.table-index _ _ _ c.loop-table-test.true
          (rw (c.table_in.ensures, c.table-item.is, c.loop-table.invariant.count) at some) c.loop-table.invariant.sound)
    ])

pub loop-table-preserved : goal.loop-table-preserved
loop-table-preserved g c =
    let sound = rw (c.table_in.ensures, c.table-item.is, c.loop-table.invariant.count) at c.in_ok-read.ensures.ok in
    let says = rw (c.table_in.ensures, c.table-item.is) at c.in_ok-read.ensures.says in
    let tables = map_more seen c.args.tables.now c.loop-table.table-index _ c.loop-table-test.true in
    record {
      count = ap (λ n. n + 1) c.loop-table.invariant.count;
      few = rw c.in_ok-push.ensures.items (length-append c.loop-table.entries.items (c.in_ok-read.field-0 ∷ []) ∙ ap (λ n. n + 1) c.loop-table.invariant.few);
      says = rw (c.in_ok-push.ensures.items, tables) (say_more (g.E.Entry.says c.args.version) _ _ _ _ c.loop-table.invariant.says says);
      sound = goes_on seen (λ n before t. g.E.Entry.fault c.args.version n t) c.args.tables.now c.loop-table.table-index _ _ c.loop-table-test.true sound c.loop-table.invariant.sound;
    }

pub returns-clause-ok : goal.returns-clause-ok
returns-clause-ok g c = ends seen (λ n before t. g.E.Entry.fault c.args.version n t) c.args.tables.now c.loop-table.table-index _ c.loop-table-test.false c.loop-table.invariant.sound
