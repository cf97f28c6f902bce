-- What is claimed of two exports together.
pub mod Delivered
