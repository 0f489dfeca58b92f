-- `Flat` has what the numbers of a run stand for.
pub mod Flat
