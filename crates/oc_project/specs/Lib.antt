-- `Project` has the sharpening.
pub mod Project
