-- What adding the corners and middles of a piece leaves.
pub mod Adding
