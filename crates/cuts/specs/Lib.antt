-- What is claimed of every split.
pub mod Counts
pub mod Areas
pub mod Choices
pub mod Provenance
