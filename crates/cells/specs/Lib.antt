-- What subdivide makes of a piece, and of pieces one after the other; and what is claimed of them.
pub mod Cells
pub mod Pieces
pub mod Stages
pub mod Claims
pub mod Cover
pub mod Asks
pub mod Rims
pub mod Flat
