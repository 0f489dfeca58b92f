-- `Sums` has sums of numbers; `Marks` lists of Bools in which a job is marked; `Turns` the turns over the jobs, and `First` where all turns end; `Tests` what passed tests leave;
-- `Parts` unknown names in parts of a list; `Replies` each way out of a call; `Calls` what one call does to a shift; `Begins` a shift as it begins; `Shared` what holds of lists of calls.
pub mod Sums
pub mod Marks
pub mod Turns
pub mod Tests
pub mod Replies
pub mod First
pub mod Calls
pub mod Begins
pub mod Shared
mod Parts
