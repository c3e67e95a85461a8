use Rattle.std.proofs.Common.{◌≡◌, ◌++◌, drop, map}
use Rattle.hull_report.specs.Spelling.{spaced, figure}
use Rattle.hull_report.proofs.spelled.push_each.Given as goal

abbrev pub invariant-loop-figure : goal.invariant-loop-figure
invariant-loop-figure l = l.text.items ++ spaced (map figure (drop l.figure-index l.figures)) ≡ l.fn.text.items ++ spaced (map figure l.figures)
