pub mod Records
pub mod Numbers
pub mod Faults
pub mod Rows
pub mod Stations
pub mod Heights
pub mod Points
pub mod Offsets
