-- The law of this function, as a lemma proves it:
-- it stands in proofs/Span.antt.
use Rattle.exact_algebra.proofs.Span.{product_lies_in_products}
use Rattle.exact_algebra.proofs.product_lies_in_products.Goals as goal

pub returns : goal.returns
returns c = product_lies_in_products
