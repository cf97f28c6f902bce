-- The number of a ring by itself, and why it is that of every empty list.
pub mod Number
pub mod Empty
