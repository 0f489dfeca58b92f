-- `Parts` has the law that a strip fed in parts is read as a whole, over what a reader holds behind each byte (`Streamed`).
pub mod Streamed
pub mod Parts
