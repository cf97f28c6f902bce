-- What clean_polygon makes of a ring, and which places stay.
pub mod Clean
pub mod Places
pub mod Rings
