pub mod Statements
pub mod WellFormed
pub mod Text
pub mod Reading
pub mod Progress
pub mod Blocks
pub mod Pieces
pub mod Lengths
