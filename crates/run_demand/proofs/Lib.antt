-- `Demand`: demand 3 of the calls. `Named`: what a call is refused with is the number of a refusal. `Can`: its premises can be met. `Across`, `CanAcross`: the same of the calls over numbers.
pub mod Demand
pub mod Named
pub mod Can
pub mod Across
pub mod CanAcross
