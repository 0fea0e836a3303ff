pub mod Numbers
pub mod Options
pub mod Given
pub mod Commands
pub mod Spelling
pub mod Matches
