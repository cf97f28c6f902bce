-- What a square root, a length and a distance are.
pub mod Root
pub mod Nearest
pub mod Norm
