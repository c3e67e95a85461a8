-- The definitions that contracts cite: the bounds of a ratio, the fraction that it is, and an answer's order.
pub mod Bounds
pub mod Fraction
