-- `Meetings` has that a row has no more neighbours than meetings, `Weights` that its weights come near to a sum of one, `Rows` the weights as they stand in
-- a table's lists, `Filtered` its filtered value, `Nudge` what one nudged element does to it, `Claims` both claims of the tables that there are.
pub mod Meetings
pub mod Weights
pub mod Rows
pub mod Filtered
pub mod Nudge
pub mod Claims
