pub mod Judged
pub mod Counting
pub mod Rows
pub mod Again
