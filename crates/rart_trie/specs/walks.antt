pub mod BelowPrefix
pub mod Calls
pub mod Cut
pub mod ProbeCount
pub mod Walk
pub mod VisitCounts
pub mod Walks
