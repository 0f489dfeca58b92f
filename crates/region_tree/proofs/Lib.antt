pub mod Boxes
pub mod Halves
pub mod Split
pub mod Stored
