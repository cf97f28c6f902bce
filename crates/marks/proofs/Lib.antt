-- What is proved of a ring's marks, the Rust's test among it, and the laws of the loops that lay and count them.
pub mod Edges
pub mod RustMarks
pub mod SnapRange
