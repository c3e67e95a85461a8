use Rattle.std.proofs.Common.{◌≡◌}
use Rattle.toml.specs.View.{members_view}
use Rattle.job_reader.specs.Values.{has_only}
use Rattle.job_reader.proofs.value.has_only.Given as goal

abbrev pub invariant-loop-word : goal.invariant-loop-word
invariant-loop-word l = has_only l.keys (members_view l.word-iterator) ≡ has_only l.keys (members_view l.table.entries)
