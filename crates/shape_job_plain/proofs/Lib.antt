-- `Grows`: no call shortens a list. `Plainly`: what a job's calls show is what the plain run shows, and the last of it is how the job ended. `Ends`: a job ends.
mod Grows
pub mod Plainly
pub mod Ends
