-- `Seen` has what a solve is given, `Lent` the same through a table that is lent as one.
pub mod Seen
pub mod Lent
