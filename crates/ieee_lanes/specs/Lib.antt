-- `Fraction` has the continued fraction by the square, with its bounds.
pub mod Fraction
