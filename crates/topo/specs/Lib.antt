-- `Levels` has the stiffness levels of mod.rs, `Stages` the three choices of sharpening, `Stops` the reasons that a run stops for.
pub mod Levels
pub mod Stages
pub mod Stops
