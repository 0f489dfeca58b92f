-- `Depths` has what sets with depths add to the marks. `Near` has the walk of a box of cells about a triangle, `Covers` that the box holds all that it reaches.
pub mod Depths
pub mod Near
pub mod Covers
