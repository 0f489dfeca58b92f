-- `Tanh` has Lambert's continued fraction.
pub mod Tanh
