-- `Steps` has what the code's steps promise each other, which no caller must believe: callers cite `Table` of crate filter_table.
pub mod Steps
