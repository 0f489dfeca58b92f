-- `Table` has the filter's table, the two products with it, and the test that it is well formed. `Lent` has the same of a table that is lent as one,
-- `Known` what is known of one.
pub mod Table
pub mod Lent
pub mod Known
