pub mod Orders
pub mod States
pub mod Sinks
pub mod Nets
pub mod Standing
pub mod Ports
pub mod Turns
pub mod Laws
