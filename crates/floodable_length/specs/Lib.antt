pub mod MarginLine
pub mod Lengths
pub mod LoadedShip
pub mod Settled
pub mod Reach
pub mod Gap
pub mod MarginLaw
