pub mod Benches
pub mod Laws
