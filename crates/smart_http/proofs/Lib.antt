pub mod PartLemmas
pub mod OrderLemmas
pub mod EndLemmas
pub mod BodyLemmas
pub mod EnterLemmas
