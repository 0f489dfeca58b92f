-- `Goal` has the volume to keep, how near, the room left and the density to start at.
pub mod Goal
