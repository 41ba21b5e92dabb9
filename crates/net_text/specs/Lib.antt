pub mod Lines
pub mod LinesView
pub mod Orders
pub mod Faults
pub mod Text
pub mod Ordering
pub mod Draft
pub mod Laws
