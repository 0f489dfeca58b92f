-- `Grants` has a shift's beginning and a grant; `Shared` what holds of whole lists of calls.
pub mod Grants
pub mod Shared
