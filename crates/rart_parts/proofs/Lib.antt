pub mod FreedLemmas
pub mod NumberedLemmas
pub mod PlaceLemmas
pub mod entries
pub mod sets
