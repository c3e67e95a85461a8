-- Findings: what a rule finds on one side, on both sides, and the verdict.
use Rattle.std.specs.Prelude.{◌≡◌, ℕ, ◌+◌, List, [], ◌∷◌, Option, Some, None, unwrap_or}
use Rattle.intact_criteria.specs.declared.finding.Side.TheVariants.{Port, Starboard}
use Rattle.intact_criteria.specs.declared.finding.Shown.{Shown}
use Rattle.intact_criteria.specs.declared.finding.Shown.TheVariants as shown
use Rattle.intact_criteria.specs.declared.finding.Mark.{Mark}
use Rattle.intact_criteria.specs.declared.finding.Mark.TheVariants as mark
use Rattle.intact_criteria.specs.declared.finding.Verdict.{Verdict}
use Rattle.intact_criteria.specs.declared.finding.Verdict.TheVariants as verdict
use Rattle.intact_criteria.specs.declared.finding.Finding.{Finding}
use Rattle.intact_criteria.specs.declared.finding.Finding.TheVariants as finding
use Rattle.intact_criteria.specs.declared.finding.Found.{Found}
use Rattle.intact_criteria.specs.declared.finding.Found.TheVariants as found
use Rattle.intact_criteria.specs.Readings.{Ends, HasEnds}

-- a rule by four facts: it finds that the criterion holds where the first does, that it fails where the second does, and
-- else that it is unsure; the third says what is shown where it fails, the fourth where it is unsure
abbrev pub Follows : (holds fails : Type 0) (failing unsure : Shown → Type 0) → Finding → Type 0
Follows holds fails failing unsure finding.Holds = holds
Follows holds fails failing unsure (finding.Fails shown) = fails × failing shown
Follows holds fails failing unsure (finding.Unsure shown) = ¬ holds × ¬ fails × unsure shown

-- an interval at a degree is shown
abbrev pub IsInterval : ℕ → Ends → Shown → Type 0
IsInterval degree ends (shown.Interval k span) = (k ≡ degree) × HasEnds ends span
IsInterval degree ends (shown.Pair low high) = ⊥
IsInterval degree ends (shown.Leak opening k span) = ⊥

-- the levers at two degrees are shown
abbrev pub IsPair : ℕ → ℕ → Shown → Type 0
IsPair low high (shown.Interval k span) = ⊥
IsPair low high (shown.Pair i j) = (i ≡ low) × (j ≡ high)
IsPair low high (shown.Leak opening k span) = ⊥

-- the depth at a degree of the opening at a place of the list is shown, by its number, which counts from 1
abbrev pub IsLeak : ℕ → ℕ → Ends → Shown → Type 0
IsLeak place degree ends (shown.Interval k span) = ⊥
IsLeak place degree ends (shown.Pair low high) = ⊥
IsLeak place degree ends (shown.Leak opening k span) = (opening ≡ place + 1) × (k ≡ degree) × HasEnds ends span

-- on both sides: Fails where a side's is, Holds where both are, else Unsure; the side is the first with this mark
abbrev pub on_both : Finding → Finding → Found
on_both (finding.Fails shown) starboard = found.Fails Port shown
on_both finding.Holds (finding.Fails shown) = found.Fails Starboard shown
on_both (finding.Unsure other) (finding.Fails shown) = found.Fails Starboard shown
on_both finding.Holds finding.Holds = found.Holds
on_both (finding.Unsure shown) finding.Holds = found.Unsure Port shown
on_both (finding.Unsure shown) (finding.Unsure other) = found.Unsure Port shown
on_both finding.Holds (finding.Unsure shown) = found.Unsure Starboard shown

abbrev pub mark_of : Found → Mark
mark_of found.Holds = mark.Holds
mark_of (found.Fails side shown) = mark.Fails
mark_of (found.Unsure side shown) = mark.Unsure

-- the first that fails, and the first that is unsure, of criteria that count from n
abbrev pub first_failing : ℕ → List Found → Option Verdict
first_failing n [] = None
first_failing n (found.Holds ∷ others) = first_failing (n + 1) others
first_failing n (found.Fails side shown ∷ others) = Some (verdict.Fail n side shown)
first_failing n (found.Unsure side shown ∷ others) = first_failing (n + 1) others

abbrev pub first_unsure : ℕ → List Found → Option Verdict
first_unsure n [] = None
first_unsure n (found.Holds ∷ others) = first_unsure (n + 1) others
first_unsure n (found.Fails side shown ∷ others) = first_unsure (n + 1) others
first_unsure n (found.Unsure side shown ∷ others) = Some (verdict.Undecided n side shown)

-- Fail with the first that fails; where none does, Undecided with the first that is unsure; else Pass
abbrev pub verdict_of : List Found → Verdict
verdict_of founds = unwrap_or (first_failing 1 founds) (unwrap_or (first_unsure 1 founds) verdict.Pass)
