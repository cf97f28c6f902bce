-- Laws for the code of this crate.
pub mod Refusing
pub mod Preparing
pub mod Calling
