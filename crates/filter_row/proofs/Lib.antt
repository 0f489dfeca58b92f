-- The laws that the functions' proofs cite: `Room` of 13 and 14, `OneRow` of a row.
pub mod Room
pub mod OneRow
