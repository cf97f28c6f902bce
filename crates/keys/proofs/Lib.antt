-- What is proved of keys, for the crates above.
pub mod Rounding
pub mod Nearest
pub mod KeyTests
pub mod Skip
pub mod Monotone
