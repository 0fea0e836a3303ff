pub mod Frames
pub mod ReadingFrames
pub mod Faults
