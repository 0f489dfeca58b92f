-- `Row` has what the writing of one row leaves, which no caller must believe.
pub mod Row
