-- `Answers` has the laws of answers one after the other.
pub mod Answers
