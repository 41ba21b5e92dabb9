pub mod Driving
pub mod Laws
pub mod Given
pub mod PortLaws
pub mod Pieces
pub mod TextLeft
