-- What is proved of written blocks: the theorems Written and Rewritten, and the laws of words that the function proofs cite.
pub mod Words
pub mod Written
pub mod Rewritten
