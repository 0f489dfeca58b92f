-- `Numbers` has bounds of corners' numbers. `Ways` has that a tetrahedron's corners are corners of the box, and by how much they differ.
-- `Edges` has the list of the edges met. `Lists` has laws of lists. `Filed` has that the code files the edges met.
-- `Joins` has what `join` has done after each tetrahedron.
pub mod Numbers
pub mod Ways
pub mod Edges
pub mod Lists
pub mod Filed
pub mod Joins
