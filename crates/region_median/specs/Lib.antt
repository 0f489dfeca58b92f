-- `Median` has the order by rank, its middle, and a list parted there; `Halves` has the two halves of a list apart; `Steps` has what the code's steps promise each other, which no caller must believe.
pub mod Halves
pub mod Median
pub mod Steps
