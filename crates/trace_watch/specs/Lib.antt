pub mod Watched
pub mod Standing
pub mod Texts
pub mod Laws
