-- `Defined` has what an update as it is defined is given.
pub mod Defined
