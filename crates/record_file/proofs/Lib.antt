mod CallLemmas
pub mod CrashLemmas
pub mod FoundLemmas
mod GroupLemmas
mod ImageLemmas
mod MemoryLemmas
mod OffsetLemmas
pub mod OneReading
pub mod OpenLemmas
pub mod ReadLemmas
mod RecordLemmas
mod StoreLemmas
