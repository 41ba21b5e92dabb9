mod NumberLemmas
mod NameLemmas
mod WireLemmas
mod VariableLemmas
mod WordLemmas
mod NumberWords
mod KeptLemmas
mod ProbeLemmas
mod SampleLemmas
mod TellLemmas
mod FindLemmas
mod SamplerLemmas
mod DumpLemmas
mod ParserLemmas
mod ReaderLemmas
pub mod LawLemmas
mod WideLemmas
mod TraceLemmas
