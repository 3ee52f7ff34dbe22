pub mod PrefixChangeLemmas
pub mod RangeChangeLemmas
pub mod ValueChangeLemmas
pub mod ValueWalkLemmas
