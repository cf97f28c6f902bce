-- One edge, one cell, and the cells round a centre.
pub mod Quads
pub mod Flat
pub mod Round
