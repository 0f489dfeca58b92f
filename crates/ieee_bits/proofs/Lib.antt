-- `TotalOrder` and `Patterns` have the laws of `specs/Bits.antt`.
pub mod TotalOrder
pub mod Patterns
