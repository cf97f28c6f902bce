-- What a line of a drawing says.
pub mod Line
