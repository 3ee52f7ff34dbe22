pub mod StepLemmas
