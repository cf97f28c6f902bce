-- The record of wear over lists of divider calls.
pub mod Worn
