-- `After`: which stop applies after a round, and the state that follows it.
pub mod After
