-- `Steps` has what the steps of the code promise each other: what a caller must believe is said by `CoreOpened` of crate `run_open_checks` alone.
pub mod Steps
