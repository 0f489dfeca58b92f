-- `Laws` has what a reading tells, and what follows of the lists.
pub mod Laws
