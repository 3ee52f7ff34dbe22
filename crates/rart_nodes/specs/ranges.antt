pub mod DescendingWalk
pub mod Nearest
pub mod Potential
pub mod Spans
pub mod Steps
pub mod UpperBounds
