-- Choices of a ring's points, and the search over them for any trial.
pub mod Choice
pub mod Search
