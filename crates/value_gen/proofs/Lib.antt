mod Weights
mod MadeLemmas
mod RoomLemmas
pub mod FitLemmas
mod Examples
