pub mod Meaning
pub mod Monitors
pub mod Running
pub mod Standing
pub mod Laws
