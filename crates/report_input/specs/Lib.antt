pub mod Confs
pub mod Input
pub mod Ends
