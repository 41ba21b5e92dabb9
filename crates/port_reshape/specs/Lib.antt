pub mod Far
pub mod Reshapes
pub mod Laws
pub mod Starting
pub mod Rates
