-- `Levels` has the law that no level is above 1000. `Cases` has the levels of 01's proved cases.
pub mod Levels
pub mod Cases
