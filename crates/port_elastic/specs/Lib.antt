pub mod Elastic
pub mod Laws
pub mod Starting
pub mod PortText
