-- The number of a choice, and the smallest choice that gets a number.
pub mod Trial
