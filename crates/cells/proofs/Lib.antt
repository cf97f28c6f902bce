-- The theorems on cells: what a piece, and pieces one after the other, leave of the node list and of the cells.
pub mod Attempts
pub mod Middles
pub mod Ranges
pub mod NewCells
pub mod PieceByPiece
pub mod Bound
pub mod Rims
pub mod Asking
