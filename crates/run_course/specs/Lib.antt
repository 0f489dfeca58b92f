-- `Fit` has what a state whose numbers can go on keeps to.
pub mod Fit
