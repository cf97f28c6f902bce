-- Laws of a line.
pub mod Sheet
