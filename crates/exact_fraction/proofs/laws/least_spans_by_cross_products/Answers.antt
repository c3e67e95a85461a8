-- The law of this function, which exact_algebra proves.
use Rattle.exact_algebra.proofs.Laws.{least_span_by_cross_products}
use Rattle.exact_fraction.proofs.laws.least_spans_by_cross_products.Goals as goal

pub returns : goal.returns
returns c = least_span_by_cross_products
