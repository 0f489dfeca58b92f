-- `Shown` has a job as calls.
pub mod Shown
