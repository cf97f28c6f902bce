-- What is asked of the two cosines of a diagonal.
pub mod Judge
