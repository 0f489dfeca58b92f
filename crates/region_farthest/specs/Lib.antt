-- `Farthest` has how far a boundary is from its image; `Steps` has what the code's steps promise each other, which no caller must believe.
pub mod Farthest
pub mod Steps
