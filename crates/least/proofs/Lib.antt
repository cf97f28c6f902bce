-- Laws of a search over counts.
pub mod Counts
