-- Port and starboard in a report.
use Rattle.std.specs.Prelude.{ℕ, Bool, ◌==◌, if◌then◌else◌, Option, Some, None}
use Rattle.intact_criteria.specs.declared.finding.Side.{Side}
use Rattle.intact_criteria.specs.declared.finding.Side.TheVariants as side
use Rattle.hull_report.specs.declared.names.SideLine.{SideLine}
use Rattle.hull_report.specs.declared.names.SideLine.TheVariants as word

-- a report tells the sides apart where its job is of version 2, whose items may stand off the centreplane
abbrev pub tells_sides : ℕ → Bool
tells_sides version = version == 2

-- the word of a side
abbrev pub word_of : Side → SideLine
word_of side.Port = word.Port
word_of side.Starboard = word.Starboard

-- the side as it is named
abbrev pub named_side : ℕ → Side → Option SideLine
named_side version side = if tells_sides version then Some (word_of side) else None
