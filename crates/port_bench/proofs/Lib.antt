pub mod BytesLemmas
pub mod FinishingLemmas
pub mod MakingLemmas
