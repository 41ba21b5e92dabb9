mod LexedTexts
mod PrintedWords
mod PrintedMembers
mod PrintedFields
mod PrintedElements
mod PrintedPaths
mod PrintedRoots
pub mod NamedSplits
pub mod ReadAgain
pub mod ReadOnce
