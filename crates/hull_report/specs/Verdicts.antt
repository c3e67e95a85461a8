-- A model of the private functions of `verdicts`: how verdicts are read from their words. More texts are taken than the grammar has.
use Rattle.std.specs.Prelude.{ℕ, List, Option, Some, None, if◌then◌else◌, codes}
use Rattle.std.specs.Str.{bytes_eq}
use Rattle.hull_report.specs.declared.line.ShownLine.{ShownLine}
use Rattle.hull_report.specs.declared.line.ShownLine.TheVariants as shown
use Rattle.hull_report.specs.declared.line.Call.{Call}
use Rattle.hull_report.specs.declared.line.Call.TheVariants as call
use Rattle.hull_report.specs.declared.line.Line.{Line}
use Rattle.hull_report.specs.declared.line.Line.TheVariants as line
use Rattle.hull_report.specs.declared.verdicts.Cause.{Cause}
use Rattle.hull_report.specs.Reading.{◌>>=◌, word_at, u32_at, figure_at, criterion_at, side_at}

unfoldable pub interval_at : List ℕ → Option ShownLine
interval_at bytes = do
  degree ← u32_at bytes
  f ← figure_at degree.1
  Some (shown.Interval degree.0 f.0)

unfoldable pub pair_at : List ℕ → Option ShownLine
pair_at bytes = do
  low ← u32_at bytes
  high ← u32_at low.1
  Some (shown.Pair low.0 high.0)

unfoldable pub leak_at : List ℕ → Option ShownLine
leak_at bytes = do
  opening ← u32_at bytes
  degree ← u32_at opening.1
  f ← figure_at degree.1
  Some (shown.Leak opening.0 degree.0 f.0)

unfoldable pub heel_at : List ℕ → Option ShownLine
heel_at bytes = do
  q ← u32_at bytes
  q2 ← u32_at q.1
  f ← figure_at q2.1
  Some (shown.Heel q.0 q2.0 f.0)

unfoldable pub heels_at : List ℕ → Option ShownLine
heels_at bytes = do
  q ← u32_at bytes
  q2 ← u32_at q.1
  p ← u32_at q2.1
  p2 ← u32_at p.1
  Some (shown.Heels q.0 q2.0 p.0 p2.0)

abbrev pub shown_named : List ℕ → List ℕ → Option ShownLine
shown_named name bytes =
    if bytes_eq name (codes "interval") then interval_at bytes
    else if bytes_eq name (codes "pair") then pair_at bytes
    else if bytes_eq name (codes "leak") then leak_at bytes
    else if bytes_eq name (codes "heel") then heel_at bytes
    else if bytes_eq name (codes "heels") then heels_at bytes
    else None

unfoldable pub shown_at : List ℕ → Option ShownLine
shown_at bytes = shown_named (word_at bytes).0 (word_at bytes).1

unfoldable pub cause_at : List ℕ → Option Cause
cause_at bytes = do
  criterion ← criterion_at bytes
  let side = side_at criterion.1
  shown ← shown_at side.1
  Some (record { criterion = criterion.0; side = side.0; shown = shown })

unfoldable pub fail_at : List ℕ → Option Call
fail_at bytes = do
  cause ← cause_at bytes
  Some (call.Fail cause.criterion cause.side cause.shown)

unfoldable pub undecided_at : List ℕ → Option Call
undecided_at bytes = do
  cause ← cause_at bytes
  Some (call.Undecided cause.criterion cause.side cause.shown)

abbrev pub call_named : List ℕ → List ℕ → Option Call
call_named name bytes =
    if bytes_eq name (codes "pass") then Some call.Pass
    else if bytes_eq name (codes "fail") then fail_at bytes
    else if bytes_eq name (codes "undecided") then undecided_at bytes
    else None

unfoldable pub call_at : List ℕ → Option Call
call_at bytes = call_named (word_at bytes).0 (word_at bytes).1

unfoldable pub verdict_at : List ℕ → Option Line
verdict_at bytes = do
  call ← call_at bytes
  Some (line.Verdict call)
