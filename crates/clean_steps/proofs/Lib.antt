-- Points at places, and the turns of the loops that keep some of them.
pub mod Places
pub mod KeptPoints
pub mod Filter
pub mod Turns
