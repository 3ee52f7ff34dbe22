pub mod BothEndLemmas
pub mod PartEndLemmas
