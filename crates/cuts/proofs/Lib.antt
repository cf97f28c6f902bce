-- The five theorems of the split (Counts, Areas, Choices, Clear, Provenance), and before each the laws below it.
pub mod Machine
pub mod Parts
pub mod Counts
pub mod RingArea
pub mod Areas
pub mod Corners
pub mod Choices
pub mod Clear
pub mod Match
pub mod Sides
pub mod Dealing
pub mod Tracing
pub mod Lineage
pub mod Provenance
