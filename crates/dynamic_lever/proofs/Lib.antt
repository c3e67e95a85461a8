pub mod Sides
pub mod Displaced
pub mod Ends
pub mod CentreLaws
pub mod Widths
pub mod Boxes
pub mod RowFacts
