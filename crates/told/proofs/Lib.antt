-- What is proved of the text of a row.
pub mod Rows
