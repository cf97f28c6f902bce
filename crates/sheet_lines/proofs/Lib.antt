-- Laws of the sheet's loop.
pub mod Lines
