-- The laws that a user of the crate cites: `Changed` has those of a list changed at picked places, `Walks` the walk of a run of positions, `Boxes` a box
-- walked column by column, `Fit` that cubes fit 64 digits. `Columns` has why a column is a run of positions.
pub mod Changed
pub mod Walks
pub mod Boxes
pub mod Fit
mod Columns
