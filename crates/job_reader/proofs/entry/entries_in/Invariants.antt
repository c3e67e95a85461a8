use Rattle.std.proofs.Common.{◌≡◌, length, map, take}
use Rattle.job_reader.specs.Entries.{SayAll}
use Rattle.job_reader.specs.Faults.{first_in}
use Rattle.job_reader.proofs.Firsts.{from}
use Rattle.job_reader.proofs.EntryFacts.{seen}
use Rattle.job_reader.proofs.entry.entries_in.Given as goal

abbrev pub invariant-loop-table : goal.invariant-loop-table
invariant-loop-table g l = record {
  count : l.number ≡ l.table-index;
  few : length l.entries.items ≡ l.table-index;
  says : SayAll (g.E.Entry.says l.version) (map seen (take l.table-index l.tables)) l.entries.items;
  sound : first_in (λ n before t. g.E.Entry.fault l.version n t) (map seen l.tables) ≡ from seen (λ n before t. g.E.Entry.fault l.version n t) l.tables l.table-index;
}
