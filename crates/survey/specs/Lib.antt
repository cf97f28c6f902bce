-- What a pass over the used nodes finds, and what it leaves in the two lists of what it collects.
pub mod Survey
