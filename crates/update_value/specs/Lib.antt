-- `Value` has the value of an element at a rate.
pub mod Value
