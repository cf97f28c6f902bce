-- What simplify_chain makes of a drawn boundary run, and what is claimed of its snap points.
pub mod Chain
pub mod Stretches
pub mod Range
