-- Laws for the code of this crate.
pub mod Reading
