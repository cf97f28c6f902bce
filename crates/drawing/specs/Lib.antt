-- What a drawing's text becomes.
pub mod Drawing
pub mod Parsing
