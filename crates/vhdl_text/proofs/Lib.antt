mod Examples
mod PrintingLemmas
pub mod CutLemmas
pub mod LineLemmas
mod StmtLemmas
pub mod ProcessSpelling
pub mod BenchSpelling
mod ProcessReading
mod LineReading
pub mod BenchReading
mod CodeLemmas
mod StreamLemmas
mod DriverLemmas
mod StatementLemmas
pub mod TakingLemmas
pub mod WholeLemmas
pub mod BenchFaults
pub mod PartLemmas
pub mod VerilogLemmas
mod VerilogExamples
