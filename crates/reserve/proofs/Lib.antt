-- The theorem on the sheet's rows.
pub mod Rows
