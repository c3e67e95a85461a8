-- The law of this function, which exact_algebra proves.
use Rattle.exact_algebra.proofs.Laws.{contains_by_cross_products}
use Rattle.exact_fraction.proofs.laws.spans_contain_by_cross_products.Goals as goal

pub returns : goal.returns
returns c = contains_by_cross_products
