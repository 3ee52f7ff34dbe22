pub mod CountedNodes
pub mod Stats
