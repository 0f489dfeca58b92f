-- `Record` has what a round record says.
pub mod Record
