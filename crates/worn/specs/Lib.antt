-- What is claimed of the record of wear over lists of divider calls.
pub mod Worn
