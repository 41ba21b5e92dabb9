pub mod PauseLemmas
pub mod GrowLemmas
pub mod FrontLemmas
pub mod GapLemmas
pub mod LegalLemmas
