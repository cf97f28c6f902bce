-- The key of a coordinate.
pub mod Keys
