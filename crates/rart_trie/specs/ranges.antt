pub mod BoundCuts
pub mod LentBounds
pub mod Parts
pub mod Starts
pub mod Under
