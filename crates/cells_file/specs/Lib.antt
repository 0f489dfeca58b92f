-- `Rooms` has what a filing needs and leaves, and the test that accepts it; what a filing is stands in crate cells.
pub mod Rooms
