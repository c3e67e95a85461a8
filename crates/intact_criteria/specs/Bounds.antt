-- How large the ends of what a verdict shows may be.
use Rattle.std.specs.Prelude.{⊤}
use Rattle.outward_interval.specs.Ends.{EndsBelow}
use Rattle.intact_criteria.specs.declared.finding.Shown.{Shown}
use Rattle.intact_criteria.specs.declared.finding.Shown.TheVariants as shown
use Rattle.intact_criteria.specs.declared.finding.Verdict.{Verdict}
use Rattle.intact_criteria.specs.declared.finding.Verdict.TheVariants as verdict

-- no end of what is shown reaches 2^96 in magnitude
abbrev pub IsBounded : Shown → Type 0
IsBounded (shown.Interval degree span) = EndsBelow 96 span.lo span.hi
IsBounded (shown.Pair low high) = ⊤
IsBounded (shown.Leak opening degree span) = EndsBelow 96 span.lo span.hi

abbrev pub IsBoundedVerdict : Verdict → Type 0
IsBoundedVerdict verdict.Pass = ⊤
IsBoundedVerdict (verdict.Fail n side shown) = IsBounded shown
IsBoundedVerdict (verdict.Undecided n side shown) = IsBounded shown
