pub mod list
pub mod boxed
