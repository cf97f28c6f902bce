-- What is proved of the cosine: its range, and that it is the Rust's.
pub mod RustCosine
