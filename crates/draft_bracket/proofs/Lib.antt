pub mod Range
pub mod Looks
pub mod Found
pub mod Wholes
pub mod Sides
