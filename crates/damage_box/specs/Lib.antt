pub mod Planes
pub mod Residuals
pub mod Candidates
pub mod SharpDamageBox
pub mod Balance
pub mod Reading
pub mod Faults
pub mod ShipBalance
