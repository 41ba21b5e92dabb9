mod EdgeLemmas
mod LawLemmas
pub mod ProcessLemmas
mod RunLemmas
