-- `Vectors` has 01's rules for vectors, and the image in a plane; `Points` has points and planes as they are lent.
pub mod Vectors
pub mod Points
