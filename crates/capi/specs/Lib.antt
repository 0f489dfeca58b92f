-- `Each` has what the exports over lists give at each place, `Lent` what a call refuses its lists for and leaves in them, and `Numbers` and `Regions` the
-- numbers that stand for the cases of an enum.
pub mod Each
pub mod Lent
pub mod Numbers
pub mod Regions
