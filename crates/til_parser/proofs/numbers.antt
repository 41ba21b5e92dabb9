pub mod FractionLemmas
pub mod NumberLemmas
