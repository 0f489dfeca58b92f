-- `Points` has how many nodes a block has.
pub mod Points
