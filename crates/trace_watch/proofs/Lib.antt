mod LawLemmas
mod RunLemmas
mod TextLemmas
