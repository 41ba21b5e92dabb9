mod TestLemmas
mod ShapeLemmas
pub mod SameTypeLemmas
pub mod CompatibleLemmas
mod TypedLemmas
mod DifferenceLemmas
mod Examples
mod NamedLemmas
mod LinkedLemmas
mod CountLemmas
mod OrderLemmas
mod TextOrderLemmas
mod SizeLemmas
pub mod CheckedLemmas
mod TextLemmas
pub mod NetLemmas
mod ChainLemmas
mod FoundLemmas
mod WayLemmas
mod EndingLemmas
mod StepLemmas
pub mod CarryLemmas
mod HeadLemmas
mod CarrierLemmas
pub mod TwinLemmas
mod KeptTextLemmas
mod TransitiveLemmas
mod PortTypeLemmas
mod EndHeadLemmas
