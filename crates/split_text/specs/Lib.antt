pub mod Fields
pub mod AddedFields
pub mod Text
