pub mod LastingLemmas
pub mod PlaceLemmas
