pub mod Answers
pub mod Codes
pub mod Faults
pub mod Files
pub mod Refusals
pub mod Shelves
pub mod Stops
