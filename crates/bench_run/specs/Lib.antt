pub mod Traces
pub mod Laws
pub mod Places
pub mod Turns
pub mod TextLeft
