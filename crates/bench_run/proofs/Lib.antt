pub mod HeadLemmas
pub mod MomentLemmas
pub mod RowLemmas
pub mod PlaceLemmas
pub mod TraceLemmas
