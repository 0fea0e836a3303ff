pub mod Basis
pub mod Running
