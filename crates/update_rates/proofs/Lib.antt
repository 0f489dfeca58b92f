-- `Loops` has a turn and an end of the two loops, `Search` the same of a search that stands where its last rate leads; `Floats` has how float operations keep the
-- order, `Bounds` that every design which is left keeps to its bounds, `Passes` and `Tried` how many volumes are reckoned, `Ends` how it ends, and `Cases` 01's proved case.
pub mod Loops
pub mod Search
pub mod Floats
pub mod Bounds
pub mod Passes
pub mod Tried
pub mod Ends
pub mod Cases
