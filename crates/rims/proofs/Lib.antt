-- Ring edges (Edges), and before it that the split looks at no mark.
pub mod Twins
pub mod Edges
