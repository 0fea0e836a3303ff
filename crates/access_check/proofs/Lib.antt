pub mod UserLemmas
pub mod RuleLemmas
pub mod LawLemmas
