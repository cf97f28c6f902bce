-- That the ring's own check rejects crossings alone; and laws for the code of this crate.
pub mod SameRings
pub mod Pairs
