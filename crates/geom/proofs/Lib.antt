-- `Cases` has the image of 01's proved cases.
pub mod Cases
