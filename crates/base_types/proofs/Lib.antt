pub mod NameMaps
