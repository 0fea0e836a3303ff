mod OrderLemmas
mod PermLemmas
mod InfoLemmas
mod FetchLemmas
mod EndLemmas
