-- `Slopes` has how work and volume go with the design, `Lent` the same through a table that is lent as one.
pub mod Slopes
pub mod Lent
