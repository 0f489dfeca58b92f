-- `Whole` has the whole numbers near a float.
pub mod Whole
