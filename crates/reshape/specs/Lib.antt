pub mod Reshaping
pub mod Held
pub mod Fronts
pub mod Buffers
pub mod Filled
pub mod Kept
pub mod Standing
pub mod Runs
