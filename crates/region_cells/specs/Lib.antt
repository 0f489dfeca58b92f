-- `Depth` has what a kept set with a depth marks; `Steps` has the walk as the code makes it, which no caller must believe.
pub mod Depth
pub mod Steps
