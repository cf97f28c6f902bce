-- The steps from the marks that are lent to the ring that the core gets.
pub mod Steps
