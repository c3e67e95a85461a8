-- A model of the private functions of `outcomes`: how damage cases and floodable lengths are read from their words. More texts
-- are taken than the grammar has.
use Rattle.std.specs.Prelude.{ℕ, List, Option, Some, None, if◌then◌else◌, codes}
use Rattle.std.specs.Str.{bytes_eq}
use Rattle.hull_report.specs.declared.line.Sides.{Sides}
use Rattle.hull_report.specs.declared.line.CaseEnd.{CaseEnd}
use Rattle.hull_report.specs.declared.line.CaseEnd.TheVariants as case
use Rattle.hull_report.specs.declared.line.SafeBox.{SafeBox}
use Rattle.hull_report.specs.declared.line.ReasonLine.{ReasonLine}
use Rattle.hull_report.specs.declared.line.ReasonLine.TheVariants as reason
use Rattle.hull_report.specs.declared.line.Line.{Line}
use Rattle.hull_report.specs.declared.line.Line.TheVariants as line
use Rattle.hull_report.specs.Reading.{◌>>=◌, word_at, u32_at, figure_at, sides_at}

abbrev pub tip_named : List ℕ → List ℕ → Option CaseEnd
tip_named name bytes =
    if bytes_eq name (codes "fore") then Some case.NoStartFore
    else if bytes_eq name (codes "aft") then Some case.NoStartAft
    else None

abbrev pub unsettled_named : List ℕ → List ℕ → Option CaseEnd
unsettled_named name bytes =
    if bytes_eq name (codes "sinks") then (figure_at bytes >>= λ left. Some (case.Sinks left.0))
    else tip_named (word_at bytes).0 (word_at bytes).1

unfoldable pub unsettled_at : List ℕ → Option CaseEnd
unsettled_at bytes = unsettled_named (word_at bytes).0 (word_at bytes).1

abbrev pub end_by : Option Sides → List ℕ → Option CaseEnd
end_by (Some sides) bytes = Some (case.Settled sides)
end_by None bytes = unsettled_at bytes

unfoldable pub end_at : List ℕ → Option CaseEnd
end_at bytes = end_by (sides_at bytes) bytes

unfoldable pub damage_at : List ℕ → Option Line
damage_at bytes = do
  case ← u32_at bytes
  end ← end_at case.1
  Some (line.Damage case.0 end)

unfoldable pub box_at : List ℕ → Option SafeBox
box_at bytes = do
  length ← u32_at bytes
  sides ← sides_at length.1
  Some (record { length = length.0; sides = sides })

unfoldable pub safe_at : List ℕ → Option Line
safe_at bytes = do
  centre ← u32_at bytes
  Some (line.Safe centre.0 (box_at centre.1))

unfoldable pub over_at : List ℕ → Option ReasonLine
over_at bytes = do
  station ← u32_at bytes
  sides ← sides_at station.1
  Some (reason.Over station.0 sides)

unfoldable pub touch_at : List ℕ → Option ReasonLine
touch_at bytes = do
  station ← u32_at bytes
  sides ← sides_at station.1
  Some (reason.Touch station.0 sides)

abbrev pub reason_named : List ℕ → List ℕ → Option ReasonLine
reason_named name bytes =
    if bytes_eq name (codes "over") then over_at bytes
    else if bytes_eq name (codes "touch") then touch_at bytes
    else if bytes_eq name (codes "sinks") then Some reason.Sinks
    else if bytes_eq name (codes "nostart") then Some reason.NoStart
    else if bytes_eq name (codes "endofship") then Some reason.EndOfShip
    else None

unfoldable pub reason_at : List ℕ → Option ReasonLine
reason_at bytes = reason_named (word_at bytes).0 (word_at bytes).1

unfoldable pub next_line_at : List ℕ → Option Line
next_line_at bytes = do
  centre ← u32_at bytes
  length ← u32_at centre.1
  reason ← reason_at length.1
  Some (line.Next centre.0 length.0 reason)
