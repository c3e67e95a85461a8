use Rattle.std.proofs.Common.{◌≡◌, take, drop}
use Rattle.hull_report.specs.Reading.{cut}
use Rattle.hull_report.proofs.Cuts.{behind}
use Rattle.hull_report.proofs.word.cut.Given as goal

abbrev pub invariant-loop-at : goal.invariant-loop-at
invariant-loop-at l = behind (take l.at l.bytes) (cut l.separator (drop l.at l.bytes)) ≡ cut l.separator l.bytes
