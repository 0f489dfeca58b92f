-- `Weights` has how near a row's weights come to a sum of one, `Nudge` how far a filtered density moves where one design value is changed.
pub mod Weights
pub mod Nudge
