-- `Opens` has what the core of an opening returns and leaves; `Asked` an opening of which lengths are told.
pub mod Opens
pub mod Asked
