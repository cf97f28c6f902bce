-- Laws of numerals.
pub mod Bounds
pub mod NearestUnit
pub mod Trials
