-- `Entries` has what the writing of one row's entries leaves, which no caller must believe.
pub mod Entries
