pub mod Served
pub mod Visits
pub mod Passes
pub mod ServesAll
pub mod Laws
