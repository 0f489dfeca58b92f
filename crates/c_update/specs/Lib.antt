-- `Numbers` has the numbers that stand for the cases of an update's ending.
pub mod Numbers
