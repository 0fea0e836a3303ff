mod LawLemmas
mod CheckLemmas
mod PathLemmas
