-- `Laws` has the laws of texts laid over a list, and of the numbers in them. `Room` has that 14,000 places hold every report.
pub mod Laws
pub mod Room
