-- Laws that the function proofs cite: how long the text of a ring and of a node is at most, and the cells of a list as they are read.
pub mod Lengths
pub mod Cells
pub mod Turns
