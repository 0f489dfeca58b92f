-- `Units` has the law of the planes made of unit length.
pub mod Units
