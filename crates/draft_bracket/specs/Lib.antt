pub mod GridLevels
pub mod DraftBracket
pub mod Places
