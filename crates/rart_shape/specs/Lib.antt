pub mod ShapeRecords
