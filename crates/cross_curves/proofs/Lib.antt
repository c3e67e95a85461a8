pub mod ByNeed
pub mod Boxes
