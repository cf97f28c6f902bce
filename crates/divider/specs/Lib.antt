-- What the divider call promises, and what its steps ask of each other.
pub mod Promise
pub mod Steps
