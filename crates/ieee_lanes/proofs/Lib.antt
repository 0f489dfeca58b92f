-- `Squeeze` has bounds for the continued fraction, and `Laws` its end; `Order` has how float operations keep the order, and `Same` when two floats
-- are one.
pub mod Order
pub mod Same
pub mod Squeeze
pub mod Laws
