-- `Fronts` has what is left in lent lists.
pub mod Fronts
