pub mod FrontLemmas
pub mod LawLemmas
pub mod LinkLemmas
pub mod PacketLemmas
