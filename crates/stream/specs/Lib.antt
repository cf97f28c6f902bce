-- What reads gave, and how a number is written.
pub mod Reads
pub mod Shown
