pub mod Table
pub mod Rules
pub mod Check
pub mod Laws
pub mod PathVerdicts
