-- `Copied` has that a list read place by place is itself, and what `==` tests of two.
pub mod Copied
