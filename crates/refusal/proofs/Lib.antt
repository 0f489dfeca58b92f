-- `Numbers` has that no refusal's number is 0.
pub mod Numbers
