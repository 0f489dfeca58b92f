-- `Made` has the calls of a run as the contracts of `run::open` and `run::answer` tell them, `Demand` what demand 3 says of them. `Across` has the calls over numbers, that C makes.
pub mod Made
pub mod Demand
pub mod Across
