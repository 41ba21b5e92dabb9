pub mod Nodes
pub mod Streams
pub mod Carried
pub mod Elements
pub mod Standing
pub mod Ending
pub mod Found
pub mod Splitting
