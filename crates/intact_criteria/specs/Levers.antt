-- The ends of an interval.
use Rattle.std.specs.Prelude.{ℤ}
use Rattle.intact_criteria.specs.declared.levers.End.{End}
use Rattle.intact_criteria.specs.declared.levers.End.TheVariants.{Lower, Upper}
use Rattle.intact_criteria.specs.Readings.{Ends}

abbrev pub end_at : End → Ends → ℤ
end_at Lower ends = ends.lo
end_at Upper ends = ends.hi
