-- What is proved of a ring that is divided, of runs, and of `printed`.
pub mod Rows
pub mod Divided
pub mod Runs
pub mod Printed
