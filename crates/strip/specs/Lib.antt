-- `Strip` says what a job strip is and what is read from it.
pub mod Strip
