pub mod Built
pub mod Spine
