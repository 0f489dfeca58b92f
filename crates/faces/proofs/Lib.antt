-- `Cases` has the distances of 01's proved cases.
pub mod Cases
