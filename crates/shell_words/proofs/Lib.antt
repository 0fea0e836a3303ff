pub mod NumberLemmas
mod CommandLemmas
mod SpellingLemmas
mod ReadingLemmas
mod MatchLemmas
