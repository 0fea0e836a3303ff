mod RowLemmas
mod EntryLemmas
mod ListLemmas
mod WalkLemmas
mod FoundLemmas
mod ConfLemmas
mod LawLemmas
mod TreeLemmas
