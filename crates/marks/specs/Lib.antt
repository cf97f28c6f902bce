-- A ring with the marks of its edges, and how an array holds them.
pub mod Part
pub mod Marks
pub mod Edges
