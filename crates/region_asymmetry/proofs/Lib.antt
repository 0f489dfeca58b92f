-- `Lent` has that the lists are long enough where nothing is refused, and what is answered.
pub mod Lent
