-- What is proved of a chain's snap points; and the laws of the loop over it.
pub mod Snaps
mod Turning
mod Collect
