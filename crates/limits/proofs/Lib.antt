-- The code's set on delivery is the definition's; what is known of a set that is taken; what a range of doubles contains.
pub mod Delivered
pub mod Taken
pub mod Literals
