-- `Thirds` works the row out.
pub mod Thirds
