use Rattle.std.proofs.Common.{◌≡◌, ◌++◌, drop, length}
use Rattle.hull_report.specs.Spelling.{spaced, figure_words, may_be_absent}
use Rattle.hull_report.proofs.spelled.push_figures.Given as goal

abbrev pub invariant-loop-figure : goal.invariant-loop-figure
invariant-loop-figure l = record {
  all : length l.figures ≡ 11;
  parts : l.text.items ++ spaced (figure_words (drop l.figure-index may_be_absent) (drop l.figure-index l.figures)) ≡ l.fn.text.items ++ spaced (figure_words may_be_absent l.figures);
}
