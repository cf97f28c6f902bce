-- That a mark that survives stays on its edge.
pub mod Survivors
