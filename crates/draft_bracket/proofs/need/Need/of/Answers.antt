use Rattle.exact_algebra.proofs.Span.{least_span_over_out}
use Rattle.exact_fraction.specs.Fraction.{denominator, denominator-positive}
use Rattle.draft_bracket.proofs.need.Need.of.Goals as goal

pub invariant_of-result : goal.invariant_of-result
invariant_of-result c = record { least = least_span_over_out c.args.ratio.now.num (denominator c.args.ratio.now) (denominator-positive c.args.ratio.now) c.of_ratio.ensures }
