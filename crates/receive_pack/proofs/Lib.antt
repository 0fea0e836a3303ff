mod ListLemmas
mod CommandLemmas
mod ReportLemmas
mod PackLemmas
mod PushLemmas
mod TextLemmas
mod AdvertisementLemmas
pub mod OrderLemmas
