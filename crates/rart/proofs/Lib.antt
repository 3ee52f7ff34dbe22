pub mod CountLemmas
pub mod LawLemmas
pub mod bulks
pub mod ends
pub mod scripts
pub mod trees
