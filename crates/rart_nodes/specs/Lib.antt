pub mod joins
pub mod ranges
pub mod tries
pub mod walks
