pub mod Advertising
pub mod Lines
pub mod Wants
pub mod Haves
pub mod Sending
pub mod Uploading
pub mod Laws
