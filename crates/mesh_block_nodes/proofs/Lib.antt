-- `Maps` has that two maps which undo each other have as many numbers on either side. `Digits` has a corner's number and back. `Sides` has what the
-- sides of a tetrahedron are, `Edges` what the list of the edges met holds, `Cells` that each step between corners is a side. `Count` has how many nodes
-- there are, and `Made` that `block` makes as many.
mod Maps
mod Digits
mod Sides
mod Edges
mod Cells
pub mod Count
pub mod Made
