-- `Readings` has what `read_strip` is, case by case, for the proof of `read`; `Rows` numbers one after the other.
pub mod Rows
pub mod Readings
