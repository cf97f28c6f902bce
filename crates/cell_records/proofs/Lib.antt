-- Laws of cells in a list of records.
pub mod Fours
pub mod Recorded
pub mod Moved
pub mod Numbered
