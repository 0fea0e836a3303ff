pub mod Limits
pub mod Heads
pub mod Reading
pub mod Targets
pub mod Fields
pub mod Table
pub mod Responses
pub mod Laws
