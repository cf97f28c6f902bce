-- Laws of one edge and of lists of cells.
pub mod Turns
pub mod CellList
