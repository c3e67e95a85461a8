use Rattle.std.proofs.Common.{sym}
use Rattle.job_reader.proofs.EntryFacts.{no_tables, tables_are, tables_fault_is}
use Rattle.job_reader.specs.Entries.{SayAll}
use Rattle.job_reader.proofs.entry.read_entries.Goals as goal

pub returns-in_default-clause-says : goal.returns-in_default-clause-says
unfolding SayAll
returns-in_default-clause-says g c =
    let missing = rw c.in_default.is at (sym c.value_at.ensures) in
    rw (no_tables c.args.rule.now _ missing, c.new.ensures.items) tt

pub returns-clause-ok : goal.returns-clause-ok
returns-clause-ok g c =
    let found = rw c.in-Some.is at (sym c.value_at.ensures) in
    rw (tables_fault_is (g.E.Entry.fault c.args.version) c.args.rule.now _ _ c.in_ok-tables.tables.now found c.in_ok-tables.ensures.ok c.in_ok-tables.ensures.same) c.entries_in.ensures.ok

pub returns-clause-says : goal.returns-clause-says
returns-clause-says g c =
    let found = rw c.in-Some.is at (sym c.value_at.ensures) in
    rw (← tables_are c.args.rule.now _ _ c.in_ok-tables.tables.now found c.in_ok-tables.ensures.same) c.entries_in.ensures.says

pub returns-clause-err : goal.returns-clause-err
returns-clause-err g c =
    let found = rw c.in-Some.is at (sym c.value_at.ensures) in
    rw (tables_fault_is (g.E.Entry.fault c.args.version) c.args.rule.now _ _ c.in_ok-tables.tables.now found c.in_ok-tables.ensures.ok c.in_ok-tables.ensures.same) c.entries_in.ensures.err
