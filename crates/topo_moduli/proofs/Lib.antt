-- `Whole` carries a test over a whole list to each of its places; `Moduli` has the table's rule and that it rises; `Levels` the way there and back.
pub mod Whole
pub mod Patterns
pub mod Moduli
pub mod Levels
