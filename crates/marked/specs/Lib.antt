-- What the call with given marks promises, and what its steps ask of each other.
pub mod Promise
pub mod Steps
