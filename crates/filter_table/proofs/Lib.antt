-- `Laws` has the laws of `specs/Table.antt`. `Front` has that the products depend only on what the rows use. `Cases` has small tables.
pub mod Laws
pub mod Front
mod Cases
