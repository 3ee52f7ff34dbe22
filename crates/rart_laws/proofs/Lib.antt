pub mod BranchPointLemmas
pub mod ShapeExamples
pub mod StatsExamples
