pub mod Flooding
pub mod LeftWidths
pub mod Upright
