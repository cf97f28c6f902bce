-- What holds of the tests of a point: that they are the Rust's, and that to be near is mutual; and the laws of the code.
pub mod RustNearness
pub mod Nearness
mod Flatness
