-- What a search finds, and what add_node does to the list.
pub mod Found
pub mod Adding
pub mod Evens
