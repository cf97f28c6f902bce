-- What is drawn of one block of a job.
pub mod Drawn
