pub mod Directions
pub mod Degrees
