-- `Adds` has what lists of flags become when more flags are set; `Flags` has the flags of the kept nodes.
pub mod Adds
mod Flags
mod Among
