-- `OffCentre` has how far points reach to each side of a plane.
pub mod OffCentre
