pub mod Bounds
pub mod Extent
pub mod Figures
pub mod Row
pub mod Widths
