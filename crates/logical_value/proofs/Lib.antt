pub mod PlainLemmas
pub mod PackingLemmas
pub mod LawLemmas
pub mod AgreeingLemmas
pub mod UnpackingLemmas
pub mod NameLemmas
pub mod NamingLemmas
pub mod FitLemmas
