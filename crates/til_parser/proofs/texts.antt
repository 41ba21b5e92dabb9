pub mod NumberTextLemmas
pub mod WrittenLemmas
