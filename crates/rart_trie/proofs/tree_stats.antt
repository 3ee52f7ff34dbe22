pub mod CountLemmas
pub mod CountedStats
pub mod StatsLemmas
pub mod WidthSums
