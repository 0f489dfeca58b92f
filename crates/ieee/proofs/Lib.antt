-- `Order` has the laws of `le` on floats, `Comparing` what comparisons say of fractions, `Sign` how a sign goes through the operations, `Grid` which
-- whole number of smallest values a value is, and `Bounds` those of sums, products, `max` and `min`. `Basic` has the cases of `specs/Basic.antt`.
pub mod Order
pub mod Comparing
pub mod Sign
pub mod Grid
pub mod Basic
pub mod Bounds
