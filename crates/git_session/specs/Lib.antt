pub mod Perms
pub mod Info
pub mod Session
pub mod Protocol
