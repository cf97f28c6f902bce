-- The rule of the reserve, and the printed sheet.
pub mod Reserve
pub mod Sheet
