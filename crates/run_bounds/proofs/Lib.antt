-- `Start` has that the start's values lie from 0 to 1, `Runs` that every update of a run keeps to its bounds.
pub mod Start
pub mod Runs
