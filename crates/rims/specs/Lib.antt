-- What is claimed of ring edges.
pub mod Edges
