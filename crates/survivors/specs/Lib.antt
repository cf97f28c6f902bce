-- Which marks of a ring's edges survive cleaning.
pub mod Survivors
