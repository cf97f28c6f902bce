-- The practice call's promise, and how it compares with the examination's.
pub mod Practice
