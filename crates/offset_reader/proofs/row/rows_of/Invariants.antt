use Rattle.std.proofs.Common.{◌≡◌, ◌+◌, ◌++◌, length, map, None}
use Rattle.csv.specs.Records.{fields_of}
use Rattle.offset_reader.specs.Rows.{rows_from, rows_fault_from}
use Rattle.offset_reader.proofs.row.rows_of.Given as goal

abbrev pub invariant-loop-rest : goal.invariant-loop-rest
invariant-loop-rest l = record {
  number : l.number + length l.rest ≡ length l.records;
  faults : rows_fault_from (l.number + 1) l.before (map fields_of l.rest) ≡ rows_fault_from 1 None (map fields_of l.records);
  rows : l.rows.items ++ rows_from (l.number + 1) (map fields_of l.rest) ≡ rows_from 1 (map fields_of l.records);
}

abbrev pub decreases-loop-rest : goal.decreases-loop-rest
decreases-loop-rest l = length l.rest
