-- A model of the private functions of `further`: how lines of further reports are read from their words. More texts are taken
-- than the grammar has.
use Rattle.std.specs.Prelude.{ℕ, List, Option, Some, None, option_map, if◌then◌else◌, codes}
use Rattle.std.specs.Str.{bytes_eq}
use Rattle.hull_report.specs.declared.line.LimitLine.{LimitLine}
use Rattle.hull_report.specs.declared.line.LimitLine.TheVariants as limit
use Rattle.hull_report.specs.declared.line.Line.{Line}
use Rattle.hull_report.specs.declared.line.Line.TheVariants as line
use Rattle.hull_report.specs.Reading.{◌>>=◌, word_at, u32_at, u64_at, i64_at, figure_at, absent_at, lever_at}
use Rattle.hull_report.specs.Verdicts.{cause_at}
use Rattle.hull_report.specs.Outcomes.{end_at}

unfoldable pub tank_at : List ℕ → Option Line
tank_at bytes = do
  compartment ← u32_at bytes
  level ← u32_at compartment.1
  volume ← figure_at level.1
  lcg ← absent_at volume.1
  kg ← absent_at lcg.1
  inertia ← figure_at kg.1
  Some (line.Tank compartment.0 level.0 volume.0 lcg.0 kg.0 inertia.0)

unfoldable pub float_at : List ℕ → Option Line
float_at bytes = do
  end ← end_at bytes
  Some (line.Float end)

unfoldable pub strength_at : List ℕ → Option Line
strength_at bytes = do
  station ← u32_at bytes
  x ← u32_at station.1
  shear ← figure_at x.1
  bend ← figure_at shear.1
  Some (line.Strength station.0 x.0 shear.0 bend.0)

unfoldable pub flooded_arm_at : List ℕ → Option Line
flooded_arm_at bytes = do
  case ← u32_at bytes
  degree ← u32_at case.1
  d1 ← i64_at degree.1
  d2 ← i64_at d1.1
  port ← lever_at d2.1
  star ← lever_at port.1
  Some (line.FloodedArm case.0 degree.0 d1.0 d2.0 port.0.gz port.0.area star.0.gz star.0.area)

unfoldable pub flooded_short_at : List ℕ → Option Line
flooded_short_at bytes = do
  case ← u32_at bytes
  degree ← u32_at case.1
  left ← figure_at degree.1
  Some (line.FloodedShort case.0 degree.0 left.0)

unfoldable pub limit_at : List ℕ → Option Line
limit_at bytes = do
  mass ← u64_at bytes
  Some (line.Limit mass.0 (option_map (λ height. height.0) (u32_at mass.1)))

unfoldable pub fail_at : List ℕ → Option LimitLine
fail_at bytes = do
  cause ← cause_at bytes
  Some (limit.Fail cause.criterion cause.shown)

unfoldable pub undecided_at : List ℕ → Option LimitLine
undecided_at bytes = do
  cause ← cause_at bytes
  Some (limit.Undecided cause.criterion cause.shown)

abbrev pub why_named : List ℕ → List ℕ → Option LimitLine
why_named name bytes =
    if bytes_eq name (codes "endofrange") then Some limit.EndOfRange
    else if bytes_eq name (codes "fail") then fail_at bytes
    else if bytes_eq name (codes "undecided") then undecided_at bytes
    else None

unfoldable pub why_at : List ℕ → Option LimitLine
why_at bytes = why_named (word_at bytes).0 (word_at bytes).1

unfoldable pub beyond_at : List ℕ → Option Line
beyond_at bytes = do
  mass ← u64_at bytes
  height ← u32_at mass.1
  why ← why_at height.1
  Some (line.Beyond mass.0 height.0 why)

-- the line of a name, from what is left behind it
unfoldable pub further_at : List ℕ → List ℕ → Option Line
further_at name bytes =
    if bytes_eq name (codes "tank") then tank_at bytes
    else if bytes_eq name (codes "float") then float_at bytes
    else if bytes_eq name (codes "strength") then strength_at bytes
    else if bytes_eq name (codes "darm") then flooded_arm_at bytes
    else if bytes_eq name (codes "dshort") then flooded_short_at bytes
    else if bytes_eq name (codes "hulllimits") then Some line.LimitsHead
    else if bytes_eq name (codes "limit") then limit_at bytes
    else if bytes_eq name (codes "beyond") then beyond_at bytes
    else None
