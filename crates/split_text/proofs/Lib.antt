mod FieldLemmas
mod TextLemmas
