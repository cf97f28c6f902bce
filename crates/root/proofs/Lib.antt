-- The theorem, the starred rows, and of lengths, for the layers above: bounds, that those over the grid are the Rust's, and where they are 0.
pub mod NearestRoot
pub mod Trials
pub mod Length
pub mod AtLeast
pub mod RustLengths
pub mod ZeroLengths
-- What they and the code's proofs rest on: whole numbers, then doubles.
pub mod Square
pub mod Heron
pub mod Halves
pub mod Rounded
pub mod Pattern
pub mod Scaled
pub mod Cases
pub mod Spacing
pub mod Middle
