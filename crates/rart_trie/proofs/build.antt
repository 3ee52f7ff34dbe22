pub mod SpineLemmas
pub mod SpineSteps
pub mod WaitingLemmas
