pub mod BeginningLemmas
pub mod BitLemmas
pub mod CodeLemmas
pub mod NetworkLemmas
pub mod OrderLemmas
pub mod PlaceLemmas
pub mod TextLemmas
