-- `Report` has the text that program `shape` prints. `Steps` has what the functions below the surface promise.
pub mod Report
pub mod Steps
