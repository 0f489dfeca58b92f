-- `Same` has the laws of the lists that are held, for those who hold them.
pub mod Same
