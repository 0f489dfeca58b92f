-- `Faces` has a tetrahedron's triangles. `Placed` has that the code stores them.
pub mod Faces
pub mod Placed
