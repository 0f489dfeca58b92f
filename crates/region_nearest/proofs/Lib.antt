pub mod Leaves
pub mod Searches
