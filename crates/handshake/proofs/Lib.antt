pub mod RunLemmas
pub mod CursorLemmas
pub mod OneRunLemmas
pub mod FinishLemmas
pub mod BoundLemmas
pub mod PortLemmas
pub mod OfferLemmas
pub mod RewindLemmas
