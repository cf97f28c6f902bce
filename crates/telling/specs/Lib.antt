-- What a run has reached, owes and has finished.
pub mod Reached
