-- `Part` has what one element adds to the volume kept, and `Sums` the sums of that.
pub mod Part
pub mod Sums
