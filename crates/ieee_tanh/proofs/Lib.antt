-- `Lambert` has the law that `tanh` is odd.
pub mod Lambert
