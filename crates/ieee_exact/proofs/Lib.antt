-- `Rounding` has what one rounding may lose, `Operations` a sum, a product and a quotient as roundings, `Sums` what a sum from the left may lose, `Shares` that
-- rounded shares of a sum add up to one, nearly, `Means` what a rounded mean may lose, `Nudges` how far two clamped means are apart.
pub mod Rounding
pub mod Operations
pub mod Sums
pub mod Shares
pub mod Means
pub mod Nudges
