pub mod FrontLemmas
pub mod LawLemmas
mod HeadLemmas
pub mod LimitLemmas
pub mod PieceLemmas
pub mod ReadLemmas
