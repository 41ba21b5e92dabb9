pub mod ProcessLemmas
pub mod OrderLemmas
pub mod MeaningLemmas
mod RunningLemmas
mod HeldLemmas
mod TurnLemmas
mod StartLemmas
mod SimLemmas
mod OrderingLemmas
mod RunLemmas
pub mod RunFitLemmas
mod RowLemmas
pub mod ShownLemmas
mod Examples
mod RunExamples
pub mod RunFaults
