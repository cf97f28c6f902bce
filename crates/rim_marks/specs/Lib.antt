-- The rim marks as the code sets them.
pub mod Marking
