pub mod ConfLemmas
mod ObjectLemmas
mod NameLemmas
