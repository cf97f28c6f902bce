-- The tables of trials, and what a row states.
pub mod Trials
pub mod Traps
