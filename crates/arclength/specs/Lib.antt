-- The lengths along a chain.
pub mod Arclength
