pub mod AscendingKeys
pub mod ShapeOfLemmas
pub mod ShapeRecordLemmas
