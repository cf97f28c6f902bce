-- What a number in a drawing says, and the coordinate that it gives.
pub mod Numeral
pub mod Nearest
