-- When a ring is simple, also by how its edges meet, and when a point is inside one.
pub mod Simple
pub mod CrossingsAlone
