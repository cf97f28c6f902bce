-- The laws of a list of refusals.
pub mod Refusals
