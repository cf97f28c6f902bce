-- The set of limits on delivery, and the sets that a call takes.
pub mod Limits
pub mod Sets
