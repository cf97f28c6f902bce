-- The two parts that a diagonal makes, and parts as the code holds them.
pub mod Cut
pub mod Vertices
pub mod Layout
pub mod Pieces
