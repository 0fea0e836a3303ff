pub mod FrameLemmas
pub mod ReadingLemmas
mod FrameRows
