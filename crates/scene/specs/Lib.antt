-- What is drawn of a ring and of a node.
pub mod Scene
pub mod Handed
