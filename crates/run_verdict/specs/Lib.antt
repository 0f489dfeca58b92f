-- `Sizes`: lengths that are told, read as `run_plain` states them.
pub mod Sizes
