pub mod Left
pub mod Kept
pub mod Columns
pub mod Strips
pub mod Floating
