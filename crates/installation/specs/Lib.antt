pub mod Draws
pub mod Conf
pub mod Sending
pub mod Objects
pub mod Sessions
