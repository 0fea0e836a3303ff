pub mod WritingLemmas
mod AnswerLemmas
pub mod DueLemmas
mod MarkLemmas
mod PlaceLemmas
mod ReadingLemmas
mod ReportLemmas
mod RoleLemmas
mod TextLemmas
