-- `Lattice` has the nodes and the tetrahedra of a block; `Bounds` and `Filing` have what the code counts on, which no caller must believe.
pub mod Lattice
pub mod Bounds
pub mod Filing
