pub mod Sides
pub mod Levers
pub mod Rows
