pub mod FrontLemmas
pub mod CountLemmas
pub mod KeepLemmas
pub mod RunLemmas
pub mod TellLemmas
pub mod LawLemmas
pub mod SomeLemmas
pub mod TextLemmas
