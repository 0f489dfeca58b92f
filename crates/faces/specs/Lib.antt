-- `Triangle` has the squared distance from a point to a triangle, region by region; `Corners` has a triangle as it is stored.
pub mod Corners
pub mod Triangle
