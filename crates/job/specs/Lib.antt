-- What `divide` does: one step of a run, and the whole run from the bytes that go in to those that come out.
pub mod Step
pub mod Run
