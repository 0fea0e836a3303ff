mod AlikeLemmas
mod ListLemmas
mod CountingLemmas
mod PreparedLemmas
mod RowLemmas
mod AscendLemmas
mod LaterLemmas
