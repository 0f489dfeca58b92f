-- The laws of `specs/Sqrt.antt`. For other crates: `Nearest`, that the root is the nearest value; `Every`, all cases and all competitors; `Monotone`,
-- that it is monotone; and `Examples`, worked roots. The rest is what the proofs of the code use.
pub mod Integer
pub mod Value
pub mod Nearest
pub mod Every
pub mod Monotone
pub mod Examples
mod Library
mod Apart
