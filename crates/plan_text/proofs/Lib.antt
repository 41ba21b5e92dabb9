pub mod WordLemmas
pub mod BlockLemmas
pub mod StreamLemmas
mod Examples
pub mod FitLemmas
pub mod FitBlocks
