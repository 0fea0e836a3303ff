mod NameLemmas
mod Loop
mod FieldLaws
mod PackLaws
mod BodyLaws
mod FoundLemmas
