-- `Checks` has what `passive` is refused for.
pub mod Passes
