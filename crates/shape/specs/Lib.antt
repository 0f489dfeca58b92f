-- `Shape` has how the job of the lists that were read ends.
pub mod Shape
