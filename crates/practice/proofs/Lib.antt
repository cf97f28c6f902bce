-- Card 8: the call by its tests (Calling).
pub mod Calling
