mod NameLemmas
mod StatementLemmas
mod SplicedLemmas
mod RefexLemmas
mod CompiledLemmas
