pub mod PlainLemmas
pub mod FlatLemmas
pub mod BuildingLemmas
pub mod LawLemmas
