-- `Lent` has the lists that a strip is read into, as they are lent and as they are left.
pub mod Lent
