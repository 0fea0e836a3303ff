pub mod Lock
pub mod Rule
