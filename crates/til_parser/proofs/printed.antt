pub mod PrintedForms
pub mod PrintedLevels
pub mod PrintedTrees
pub mod ReadAgain
