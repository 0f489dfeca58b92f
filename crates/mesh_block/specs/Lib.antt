-- `Block` has the block of tetrahedra: what the call refuses, gives and leaves.
pub mod Block
