-- The files of lemmas, lowest first: the solver, whole numbers, fractions, order and bounds, spans, laws.
-- The folders beside them prove the law of the function of that name.
pub mod NormalForm
pub mod Ring
pub mod WholeNumbers
pub mod Sign
pub mod Fraction
pub mod Order
pub mod Bounds
pub mod Whole
pub mod Division
pub mod Span
pub mod Products
pub mod DualNumbers
pub mod DividedDifference
pub mod WetForm
pub mod Laws
pub mod Examples
