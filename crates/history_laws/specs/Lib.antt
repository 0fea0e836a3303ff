pub mod Laws
pub mod Named
pub mod Refusals
pub mod StateLaws
