pub mod Levels
pub mod Steps
pub mod Flooded
pub mod FirstUnder
pub mod Gaps
pub mod LevelLaw
pub mod SmallLengths
