-- `Round` has what a round is given, as the formulas read it.
pub mod Round
