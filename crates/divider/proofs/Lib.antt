-- Laws of the divider call: lists that things are written out in, what each answer leaves, what laying out its pieces asks
-- for, the ring that is prepared, and the call over lent lists.
pub mod WrittenOut
pub mod Leaving
pub mod Laying
pub mod LaidOut
pub mod Preparing
pub mod Calling
pub mod Numbers
