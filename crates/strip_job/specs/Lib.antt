-- `Strips` has what program `shape` refuses before an opening, and the goal that a strip says.
pub mod Strips
