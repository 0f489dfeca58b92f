-- `Same` has that the filter serves sharpening alone.
pub mod Same
