-- `Run` has the contracts of `open` and `answer` over the lent history.
pub mod Run
