pub mod Users
pub mod Letters
pub mod Verdicts
pub mod Denials
pub mod Questions
pub mod Laws
