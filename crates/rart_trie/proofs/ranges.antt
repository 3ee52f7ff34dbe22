pub mod BetweenLemmas
pub mod BoundCutLemmas
pub mod PartLemmas
pub mod PassedChildren
