pub mod joins
pub mod ranges
pub mod walks
