-- `Steps` has what the steps of the code promise each other.
pub mod Steps
