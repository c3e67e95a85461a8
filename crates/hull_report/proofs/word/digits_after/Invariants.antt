use Rattle.std.proofs.Common.{◌≡◌, drop}
use Rattle.hull_report.specs.Reading.{digits_after}
use Rattle.hull_report.proofs.word.digits_after.Given as goal

abbrev pub invariant-loop-digit : goal.invariant-loop-digit
invariant-loop-digit l = digits_after l.number (drop l.digit-index l.digits) ≡ digits_after l.start l.digits
