-- What `sheet` prints, owes and has finished.
pub mod Sheeted
