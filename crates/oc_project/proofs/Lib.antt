-- `Cases` has 01's proved case.
pub mod Cases
