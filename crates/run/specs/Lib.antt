-- What one block more does to a job under way, and what a reader gave to a run.
pub mod Onward
pub mod Given
