pub mod RunItems
pub mod LoadLemmas
pub mod DueLemmas
pub mod SuffixLemmas
pub mod SideLemmas
pub mod FinishLemmas
pub mod LegalLemmas
pub mod OneLemmas
