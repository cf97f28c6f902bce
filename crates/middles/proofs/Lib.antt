-- No loose middle (NoLooseMiddle), and before it the numbers that a piece's cells have in the node list at the end.
pub mod Numbers
pub mod NoLooseMiddle
