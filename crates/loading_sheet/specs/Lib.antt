pub mod Limits
pub mod Sums
pub mod Centre
pub mod Loads
