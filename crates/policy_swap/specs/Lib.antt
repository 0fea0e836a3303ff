pub mod Conf
pub mod Compile
pub mod Laws
pub mod Rows
pub mod Found
pub mod Trees
