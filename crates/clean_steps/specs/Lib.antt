-- The steps of a pass, of the points and of their places.
pub mod Steps
pub mod Places
pub mod KeptPlaces
