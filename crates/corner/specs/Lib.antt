-- The measure of a corner, and the worst corner of a part.
pub mod Corner
