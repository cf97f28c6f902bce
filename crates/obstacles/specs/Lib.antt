-- What stands in the way of a diagonal.
pub mod Obstacles
