-- The places of a part after its corners.
pub mod Blanks
