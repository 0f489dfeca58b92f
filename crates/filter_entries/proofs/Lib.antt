-- `Writes` has the laws of what is written and set back to zero.
pub mod Writes
