-- `Filled` has the laws of lists that are filled, `Farthest` that the farthest marked node is the definition's.
pub mod Farthest
pub mod Filled
