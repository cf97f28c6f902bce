-- The laws of choices and of the search over them.
pub mod Digits
pub mod Searching
