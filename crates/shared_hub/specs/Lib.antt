pub mod Kept
pub mod Steps
pub mod Shared
pub mod Desk
