-- The rules leave no choice.
use Rattle.std.specs.Prelude.{◌≡◌, List}
use Rattle.hull_model.specs.declared.opening.Opening.{Opening}
use Rattle.dynamic_lever.specs.declared.rows.ArmTable.{ArmTable}
use Rattle.dynamic_lever.specs.declared.rows.UprightRow.{UprightRow}
use Rattle.intact_criteria.specs.declared.finding.Findings.{Findings}
use Rattle.intact_criteria.specs.Brackets.{ByBrackets}
use Rattle.intact_criteria.specs.Marks.{AreFindings}
use Rattle.intact_criteria.specs.Readings.{readings_of}

-- two findings by the rules have the same marks
abbrev pub MarksAreDecided : Type 0
MarksAreDecided = (arms : ArmTable) (upright : UprightRow) (openings : List Opening) (x y : Findings)
    → ByBrackets (λ brackets. AreFindings (readings_of brackets arms upright openings) x)
    → ByBrackets (λ brackets. AreFindings (readings_of brackets arms upright openings) y)
    → x.marks ≡ y.marks
