pub mod Ends
pub mod Kept
pub mod Laws
pub mod Printed
pub mod Text
pub mod Widths
