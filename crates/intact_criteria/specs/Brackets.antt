-- The brackets of the whole degrees from 0 to 90, in this order.
use Rattle.std.specs.Prelude.{◌≡◌, ℕ, List, Some, length, slice_get}
use Rattle.angle_bounds.specs.declared.bracket.Bracket.{Bracket}
use Rattle.draft_bracket.specs.DraftBracket.{IsOfDegree}

pub record AreDegreeBrackets (brackets : List Bracket) : Type 0 where
  pub count : length brackets ≡ 91
  pub each : (k : ℕ) (bracket : Bracket) → slice_get brackets k ≡ Some bracket → IsOfDegree k bracket

-- what is read with these brackets
abbrev pub ByBrackets : (List Bracket → Type 0) → Type 0
ByBrackets P = (brackets : List Bracket) × AreDegreeBrackets brackets × P brackets
