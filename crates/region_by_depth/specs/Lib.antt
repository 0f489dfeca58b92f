-- `Searches` has what a search about a triangle leaves, `Laws` that its steps add up, and `Held` how the lists to work in are held, which no caller must believe.
pub mod Held
pub mod Searches
pub mod Laws
