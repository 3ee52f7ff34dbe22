pub mod Masks
pub mod Members
pub mod WordBits
pub mod Words
