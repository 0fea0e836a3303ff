pub mod FrontLemmas
pub mod TraceLemmas
pub mod LimitLemmas
pub mod TurnLemmas
pub mod WrittenLemmas
pub mod OrderLemmas
pub mod RunLemmas
pub mod StepLemmas
pub mod PacketSteps
pub mod EndingLemmas
pub mod DeskLemmas
pub mod AnswerLemmas
pub mod OtherEnds
pub mod AloneLemmas
pub mod CompositionLemmas
mod Rows
