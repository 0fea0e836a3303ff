pub mod Fields
pub mod Reading
pub mod Writing
pub mod Bodies
pub mod Asked
pub mod BodyReading
pub mod Fronts
