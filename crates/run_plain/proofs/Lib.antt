-- `Passes`: what an opening's tests see to. `Parts`: lists that are lent in part. `Formulas`: lengths and counts of what the formulas make. `Full`: full stages.
pub mod Passes
pub mod Parts
pub mod Formulas
pub mod Counts
pub mod Full
pub mod Verdicts
pub mod Alike
pub mod Whole
pub mod Keeps
pub mod Runs
pub mod Begun
pub mod Made
pub mod Ends
pub mod Demand
