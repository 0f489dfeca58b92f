-- `Walks` has the laws of what a walk leaves.
pub mod Walks
