-- That crossings are the Rust's; how two segments meet, with trials; and laws for the code of this crate.
pub mod RustCrossing
pub mod Lines
pub mod Parameters
pub mod Touching
pub mod MeetingTrials
pub mod Literals
pub mod Places
