-- The text of what a step tells.
pub mod Text
