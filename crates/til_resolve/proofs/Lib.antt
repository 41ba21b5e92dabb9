mod OrderLemmas
mod PathLemmas
mod PositionLemmas
mod LookupLemmas
mod EarliestLemmas
mod AgainLemmas
mod GraphLemmas
mod ScopeLemmas
mod PlacingLemmas
mod PortLemmas
mod TwiceLemmas
mod NameLemmas
mod PathsWrittenLemmas
mod FirstLemmas
pub mod StandLemmas
pub mod ToldLemmas
pub mod PortTypeLemmas
pub mod PlainProjectLemmas
mod TypeGraphLemmas
mod RankLemmas
mod ContainmentLemmas
mod CycleLemmas
mod BelowLemmas
mod MeaningLemmas
pub mod SoundProjectLemmas
pub mod StableLemmas
mod ShapeLemmas
mod ChainLemmas
mod TableLemmas
mod EntryLemmas
mod FoldLemmas
mod WrittenLemmas
mod MisshapenLemmas
mod BadTypeLemmas
mod MakingLemmas
mod BodyLemmas
mod LastLemmas
mod SharedTypeLemmas
mod PortsWrittenLemmas
mod NumberedLemmas
mod Examples
