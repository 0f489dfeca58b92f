-- `Design` has the design at a rate, and `Trial` that of what an update is given.
pub mod Design
pub mod Trial
