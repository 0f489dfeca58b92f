-- `Bits` has IEEE 754's totalOrder.
pub mod Bits
