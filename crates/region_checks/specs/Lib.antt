-- `Boundary` has the refusals that calls with boundary triangles share.
pub mod Boundary
