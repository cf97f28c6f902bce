-- What is proved of the loop of a run.
pub mod Reaching
pub mod Given
