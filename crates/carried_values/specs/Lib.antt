pub mod WithoutLevels
pub mod Laws
