pub mod FirstLemmas
pub mod ItemsLemmas
pub mod LevelLemmas
pub mod WidthLemmas
pub mod PartsLemmas
pub mod ShapeLemmas
pub mod AddedLemmas
pub mod HeadSpelling
