-- When two segments cross, and how they meet.
pub mod Segments
pub mod Meeting
