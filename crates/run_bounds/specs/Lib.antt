-- `Bounds` has what is said of the design in a run.
pub mod Bounds
