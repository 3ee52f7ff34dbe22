pub mod Contents
pub mod Loans
pub mod Memory
pub mod RawLoans
pub mod RawSparseLoans
pub mod SlotMemory
pub mod SparseLoans
pub mod formers
