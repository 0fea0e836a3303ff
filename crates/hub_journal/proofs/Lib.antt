pub mod JournalLemmas
mod DeskLemmas
mod ReplayLemmas
mod RecoveryLemmas
