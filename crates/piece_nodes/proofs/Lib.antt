-- Points added one by one to the lent node list.
pub mod Adding
