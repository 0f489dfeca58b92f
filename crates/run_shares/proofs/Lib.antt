-- `Shares` has the proofs.
pub mod Shares
