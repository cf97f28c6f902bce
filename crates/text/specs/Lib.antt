-- Text as bytes, numbers in decimal, forms, and what writing leaves.
pub mod Text
pub mod Page
