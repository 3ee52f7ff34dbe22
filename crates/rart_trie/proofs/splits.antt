pub mod PlanSteps
pub mod SideSteps
pub mod SplitTries
pub mod TakenTrees
