mod FirstLemmas
mod ShortLemmas
pub mod HaltLemmas
pub mod LinkLemmas
pub mod StepLemmas
pub mod LineLemmas
pub mod RulebookLemmas
pub mod GateLemmas
pub mod OpeningLemmas
pub mod OrderLemmas
pub mod AskLemmas
pub mod PartLemmas
