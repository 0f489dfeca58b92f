-- `Stages` has the whole by what each of its stages gave.
pub mod Stages
