-- The loop over the pieces of a ring, and laws of what it writes.
pub mod CellPlaces
pub mod Course
pub mod Cases
pub mod Sides
