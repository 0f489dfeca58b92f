-- `Fits`: what a verdict that goes on says of the state and of the checks.
pub mod Fits
