-- `Reckoned` has that the volumes of a `Reckoning` are those of the update.
pub mod Reckoned
