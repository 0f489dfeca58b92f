-- `Domain` 01's domain, `Refusals` the first refusal of several, `Lent` what a call leaves in lent lists.
pub mod Domain
pub mod Refusals
pub mod Lent
