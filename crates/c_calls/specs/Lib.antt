-- `Held` has what the lists that an opening holds contain.
pub mod Held
