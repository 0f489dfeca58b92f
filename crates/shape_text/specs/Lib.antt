-- `Printed` has what program `shape` prints of a strip.
pub mod Printed
