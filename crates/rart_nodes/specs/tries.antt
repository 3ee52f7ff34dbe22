pub mod Equal
pub mod KeysAfter
pub mod SeenTrees
