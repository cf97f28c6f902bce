-- The attempts at a piece one after the other.
pub mod TwoAttempts
