-- `Refusals` has what holds where nothing is refused.
pub mod Refusals
