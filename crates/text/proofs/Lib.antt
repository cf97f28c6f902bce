-- What is proved of text: laws of writing one text after another, of numbers in decimal, and of forms with the bound on their length.
pub mod Writing
pub mod Pages
pub mod Decimal
pub mod Forms
