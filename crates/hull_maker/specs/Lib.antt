pub mod Draws
pub mod MadeHull
pub mod MadeJob
pub mod MadeShip
