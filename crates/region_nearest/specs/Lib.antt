-- `Nearest` has the search through a tree of boxes; `Steps` has what its code asks, which no caller must believe.
pub mod Nearest
pub mod Steps
