mod RateLemmas
mod ValidLemmas
pub mod CountLemmas
mod SplitLemmas
mod ClashLemmas
pub mod ElementLemmas
pub mod StandingLemmas
pub mod EndLemmas
