-- Laws of a drawing's lines and bytes, and what is claimed of the blocks.
pub mod Points
pub mod Closing
pub mod Feeding
pub mod ReadBack
pub mod Trials
