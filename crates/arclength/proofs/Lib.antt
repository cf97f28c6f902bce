-- That the lengths along a chain are finite; and the laws of the loops over it.
pub mod Lengths
pub mod Walk
