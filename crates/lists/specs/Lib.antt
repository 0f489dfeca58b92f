-- `Lists` has lists by index, folds, sums, tests and choices.
pub mod Lists
