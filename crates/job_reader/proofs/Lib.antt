pub mod Elements
pub mod Ranges
pub mod Firsts
pub mod EntryFacts
pub mod CheckFacts
pub mod Apart
pub mod PartsFacts
