-- `Refusals` has the laws of the first refusal of several, `Lent` those of what a call leaves.
pub mod Refusals
pub mod Lent
