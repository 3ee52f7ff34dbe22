pub mod Kinds
pub mod Lends
pub mod Stored
pub mod StoredFalls
pub mod Capacities
pub mod ChildMaps
