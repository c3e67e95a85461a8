-- The definitions that contracts cite: expressions and their normal form, rings, ordered fields,
-- and spans by cross products.
pub mod Expression
pub mod Ring
pub mod OrderedField
pub mod Span
