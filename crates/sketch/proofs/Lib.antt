-- Laws of what is drawn of a block.
pub mod Parts
