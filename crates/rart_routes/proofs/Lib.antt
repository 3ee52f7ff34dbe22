pub mod DumpLemmas
pub mod EndLemmas
pub mod FoundLemmas
pub mod PrintLemmas
