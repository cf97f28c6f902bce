-- An attempt as the code makes it, and the rim marks that it leaves.
pub mod OneAttempt
pub mod Marking
