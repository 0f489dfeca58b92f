-- `Energies` has the solver of program `shape`.
pub mod Energies
