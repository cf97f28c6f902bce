-- What holds of cleaning, whatever the code is: each file's head states its claim.
pub mod Kept
pub mod Settled
pub mod Apart
pub mod AtRest
pub mod Places
pub mod Passing
pub mod Answer
