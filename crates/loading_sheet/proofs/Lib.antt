pub mod ItemParts
pub mod SumSteps
pub mod Ratios
