-- Laws of the corner measure and of the worst corner.
pub mod Scan
pub mod Steps
pub mod Measured
pub mod WorstCorner
pub mod Trials
