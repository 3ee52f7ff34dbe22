pub mod BranchPoints
pub mod KeyLists
pub mod Shape
