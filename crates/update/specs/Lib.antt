-- `Update` has what an update leaves, and `Task` what it is asked.
pub mod Update
pub mod Task
