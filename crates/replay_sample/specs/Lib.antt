-- `Same` says when two answers are the same.
pub mod Same
