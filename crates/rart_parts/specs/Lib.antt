pub mod BitSets
pub mod Bits
pub mod Entries
pub mod Errors
pub mod Keys
pub mod Loans
pub mod Places
pub mod formers
