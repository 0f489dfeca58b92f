-- `Table` has the laws of all rows, which the functions' proofs cite.
pub mod Table
