-- `Told` has what a call returns that turns its job back.
pub mod Told
