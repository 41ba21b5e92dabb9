pub mod Places
pub mod Differences
pub mod Keeping
pub mod Standing
pub mod Texts
pub mod Laws
