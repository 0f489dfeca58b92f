-- `Group` has the planes of symmetry and the reflections in them.
pub mod Group
