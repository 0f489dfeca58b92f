-- `Laws` has a law of tests.
mod Laws
