-- Every row of the tables holds: one theorem a table, computed. Smallest rings, each a theorem.
pub mod Compute
pub mod Rows
pub mod Trials
pub mod Traps
pub mod SmallestRings
