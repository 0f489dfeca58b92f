-- `Job` has a whole job: an opening, and the solver's answers until a run ends. `Held` says what the lists that the code holds contain.
pub mod Job
pub mod Held
