-- `Loaded` has a strip's job in lists of floats.
pub mod Loaded
