-- What the pieces of a ring come to over the lent lists.
pub mod Flat
