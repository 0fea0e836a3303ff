pub mod Events
pub mod Replay
pub mod Journal
pub mod Faults
pub mod Recovery
pub mod LastPushes
