-- What is proved of the head: `no_tenth_below` and `no_tenth_beside` of Ticks are the claim that every tick has its number; the others are the laws that the
-- function proofs cite.
pub mod Cases
pub mod Lengths
pub mod Ticks
