-- `Example` has the job of 01's worked example and what it shows, `Cases` the list of 01's proved cases.
pub mod Example
pub mod Cases
