-- `Searches` has what a search about a point leaves, and `Laws` that its steps add up, which no caller must believe.
pub mod Searches
pub mod Laws
