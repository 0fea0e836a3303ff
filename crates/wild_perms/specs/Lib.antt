pub mod Roles
pub mod Places
pub mod Answers
