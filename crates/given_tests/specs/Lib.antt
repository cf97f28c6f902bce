-- The marks that a caller lends.
pub mod Lent
