pub mod Tree
pub mod Flat
pub mod Shape
pub mod Building
pub mod Laws
