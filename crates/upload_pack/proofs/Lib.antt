mod AdvertisingLemmas
mod IdLemmas
mod WantLemmas
mod HaveLemmas
mod PlaceLemmas
mod SendingLemmas
mod WholeLemmas
pub mod OrderLemmas
