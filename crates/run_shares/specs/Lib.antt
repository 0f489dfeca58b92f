-- `Shares` has the claims on row weights and on one nudged element, of the table that the plain run reads.
pub mod Shares
