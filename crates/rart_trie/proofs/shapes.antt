pub mod RecordsAlong
pub mod ShapeLemmas
