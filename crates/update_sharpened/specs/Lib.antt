-- `Ahead` has what a search with sharpening goes by, and what it keeps.
pub mod Ahead
