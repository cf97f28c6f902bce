-- What a coordinate's decimal is, what makes it the nearest, and its text.
pub mod Rounded
pub mod Nearest
pub mod Shown
