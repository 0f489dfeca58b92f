-- `Answers` has what the core of an answer leaves, read as what `run_plain`'s contract of an answer states. `Steps` has what the steps of the code promise each other:
-- what a caller must believe is said by `Answers` alone.
pub mod Answers
pub mod Steps
