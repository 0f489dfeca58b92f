-- `Falls` has that the volume kept falls as the rate rises, `Reckoned` that volume with no design written, and `Settled` what the tests show.
pub mod Falls
pub mod Reckoned
pub mod Settled
