-- The cosine of two steps.
pub mod Cosine
