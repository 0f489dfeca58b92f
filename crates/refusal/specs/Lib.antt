-- `Refusals` has the number of each refusal.
pub mod Refusals
