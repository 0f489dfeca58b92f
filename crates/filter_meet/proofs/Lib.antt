-- The laws that the functions' proofs cite: `Walking`, `Taking` and `Gathering` of the walk about a point, `Preparing` of what it goes by.
pub mod Walking
pub mod Taking
pub mod Gathering
pub mod Preparing
