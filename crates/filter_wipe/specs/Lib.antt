-- `Wiped` has what the wiping of the working lists leaves.
pub mod Wiped
