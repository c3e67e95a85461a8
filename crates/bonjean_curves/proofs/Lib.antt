pub mod Quotients
pub mod Strips
pub mod Passed
pub mod Least
