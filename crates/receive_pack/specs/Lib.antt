pub mod Changes
pub mod Texts
pub mod Receiving
pub mod Laws
