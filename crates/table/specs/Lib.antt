-- The row that a call returns, and how it comes to its number.
pub mod Answers
pub mod Refusals
