-- A part rotated, and laws for the code: the parts as it holds them, the pieces one by one.
pub mod Rotation
pub mod Segments
pub mod Stored
pub mod Pieces
