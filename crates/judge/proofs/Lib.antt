-- That the test of a diagonal's ends is the Rust's.
pub mod RustEnds
