-- `Filter` has the rows, `Build` what a build hands back; `Steps` has what the code's functions promise its users, and `Held` and `Lengths` how the code holds the lists and tells their lengths, which no caller must believe.
pub mod Filter
pub mod Build
pub mod Steps
pub mod Held
pub mod Lengths
