pub mod Places
pub mod Passes
pub mod Turns
pub mod Halves
