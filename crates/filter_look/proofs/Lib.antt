-- The laws that the functions' proofs cite: `Chosen` of the numbers that a test picks, `Marks` of the marks, `Looks` of one element looked at, `Keeping` of lists that are kept, `Taking` of elements met box after box.
pub mod Chosen
pub mod Marks
pub mod Looks
pub mod Keeping
pub mod Taking
