pub mod End
pub mod Requests
pub mod Running
pub mod Protocol
