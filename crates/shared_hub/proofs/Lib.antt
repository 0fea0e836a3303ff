pub mod ListLemmas
mod StepLemmas
mod TurnLemmas
mod PassLemmas
pub mod Crosses
