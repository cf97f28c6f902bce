-- A call over a list of cell records.
pub mod Records
