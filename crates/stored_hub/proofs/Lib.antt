pub mod WaitingLemmas
pub mod StoredLemmas
pub mod Crosses
