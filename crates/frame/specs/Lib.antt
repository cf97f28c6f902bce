-- The extent of a job, the frame of its picture, and the picture's head.
pub mod Seen
pub mod Bounds
pub mod Head
