pub mod Conf
pub mod Laws
