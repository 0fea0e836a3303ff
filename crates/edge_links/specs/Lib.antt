pub mod Accepting
pub mod Door
pub mod FileDisks
pub mod MemoryDoors
pub mod MemoryDoorViews
pub mod Sockets
pub mod Standard
pub mod Streams
