mod numbers
mod texts
mod printed
mod rules
mod SpelledLemmas
mod LexemeLemmas
pub mod PlainLemmas
mod PlacesLemmas
pub mod LawLemmas
