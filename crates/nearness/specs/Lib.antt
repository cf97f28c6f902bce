-- When a point is near another, and when it is flat between its neighbours.
pub mod Nearness
