-- `Moduli` has the moduli of the levels and the way back from a stiffness to a level.
pub mod Moduli
