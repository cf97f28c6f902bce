-- How a collection goes on, and what a block of it says.
pub mod Reached
pub mod Gathering
pub mod Tested
