pub mod Crosses
mod Knowing
pub mod Numbers
mod RuleKept
mod TurnMade
