pub mod Causes
pub mod Held
pub mod Stores
pub mod Steps
