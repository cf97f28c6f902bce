-- What is claimed of the number of a ring by itself (Anywhere.anywhere).
pub mod Anywhere
