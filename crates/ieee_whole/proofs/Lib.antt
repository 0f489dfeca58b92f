-- `Floor` and `Round` have the laws of `specs/Whole.antt`.
pub mod Floor
pub mod Round
