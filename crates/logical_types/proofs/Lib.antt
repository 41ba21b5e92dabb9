pub mod PlainLemmas
mod WidthLemmas
pub mod SizeLemmas
mod NameLemmas
mod OrderLemmas
pub mod ThroughputLemmas
mod RateLemmas
mod SummaryLemmas
mod ShownLemmas
pub mod FaultLemmas
pub mod PlainTypes
