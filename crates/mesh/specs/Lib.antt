-- `Mesh` has the volumes, the middles and the size of a mesh of ten-node tetrahedra, and `Steps` what the steps of a volume promise each other.
pub mod Mesh
pub mod Steps
