-- `Floats` has bit patterns as floats.
pub mod Floats
