-- `Bools` has laws of tests. `Laws` has the laws of `specs/Lists.antt`, for this crate's proofs and those of the crates that link it. `Mapped` has those of `map` and of a place past the end,
-- `Filled` those of a loop that fills a list, `Copied` those of one that copies it, `Any` that a test of a list's elements is a test by index.
pub mod Bools
pub mod Laws
pub mod Mapped
pub mod Filled
pub mod Any
pub mod Copied
