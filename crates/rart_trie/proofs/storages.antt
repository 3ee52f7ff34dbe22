pub mod ChildLemmas
pub mod DeletionLemmas
pub mod DropLemmas
pub mod EndEntries
pub mod EntryPlaces
pub mod LentParts
pub mod UnderLemmas
