-- `Thirds` has a row with weights of 1/3.
pub mod Thirds
