-- `Example` works 01's example out, `Cases` has the list.
pub mod Example
pub mod Cases
