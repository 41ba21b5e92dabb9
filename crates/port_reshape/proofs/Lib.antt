pub mod FarLemmas
pub mod OneLemmas
pub mod PortLemmas
pub mod StartLemmas
pub mod TraceLemmas
pub mod RateLemmas
pub mod ShapeLemmas
