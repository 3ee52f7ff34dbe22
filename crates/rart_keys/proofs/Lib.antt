mod Examples
pub mod maps
pub mod strings
