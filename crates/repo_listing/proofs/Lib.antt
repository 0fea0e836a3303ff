mod CreatorLemmas
mod LawLemmas
mod ListLemmas
mod NumberLemmas
mod StepLemmas
