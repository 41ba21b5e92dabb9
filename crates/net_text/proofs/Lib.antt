mod Examples
mod LineLemmas
pub mod OrderLemmas
mod CapacityLemmas
mod NetLemmas
pub mod FitLemmas
pub mod NetFaults
