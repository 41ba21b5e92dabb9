mod OwnLemmas
mod WordLemmas
mod NumberWordLemmas
mod MakingLemmas
mod PieceLemmas
mod FollowLemmas
pub mod DrivingLemmas
pub mod WellLemmas
pub mod PortLemmas
mod Examples
